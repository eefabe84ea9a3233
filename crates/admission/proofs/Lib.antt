mod Common
pub mod FreeLemmas
pub mod MarkLemmas
pub mod PlaceLemmas
pub mod RowLemmas
pub mod LedgerLemmas
