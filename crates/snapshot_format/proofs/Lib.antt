mod Common
pub mod FieldLemmas
pub mod SetLemmas
pub mod RecordLemmas
pub mod SnapshotLemmas
pub mod Loop
pub mod KeptLemmas
pub mod StateLemmas
