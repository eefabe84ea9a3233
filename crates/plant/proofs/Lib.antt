pub mod ComparisonLemmas
mod Common
pub mod Addresses
pub mod Holders
pub mod Kept
pub mod CachedLemmas
