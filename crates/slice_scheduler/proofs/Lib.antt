mod Common
pub mod SumLemmas
pub mod RankLemmas
pub mod ShareLemmas
pub mod PackedLemmas
pub mod TotalLemmas
pub mod GrantedLemmas
pub mod AskingLemmas
pub mod OrderLemmas
pub mod ScheduleLemmas
pub mod ServableLemmas
pub mod TiledLemmas
pub mod MoreLemmas
pub mod NamedLemmas
pub mod FewLemmas
