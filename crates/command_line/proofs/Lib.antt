mod Common
mod CommandLemmas
pub mod ReadLemmas
mod StrayLemmas
pub mod WordLemmas
pub mod BareLemmas
