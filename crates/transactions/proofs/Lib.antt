mod Common
pub mod ListLemmas
pub mod TickLemmas
pub mod AckLemmas
pub mod LifeLemmas
