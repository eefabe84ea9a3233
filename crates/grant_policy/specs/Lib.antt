pub mod Rank
pub mod RankFacts
