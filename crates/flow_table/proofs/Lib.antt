mod Common
pub mod EntryLemmas
pub mod RowLemmas
pub mod IndexLemmas
pub mod StandLemmas
pub mod MovedLemmas
pub mod GapLemmas
pub mod UsedLemmas
pub mod PlacedLemmas
