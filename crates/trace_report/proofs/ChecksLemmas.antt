pub mod Common
pub mod ListLemmas
pub mod HoldLemmas
pub mod FirstLemmas
pub mod MessageLemmas
