pub mod Common
pub mod Lists
pub mod LeastLemmas
pub mod StrayLemmas
pub mod FrameLemmas
pub mod MappingLemmas
pub mod SettleLemmas
