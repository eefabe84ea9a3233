mod Common
pub mod EntryLemmas
pub mod FlowLemmas
pub mod TableLemmas
pub mod VerdictLemmas
pub mod HandleLemmas
pub mod ScheduleLemmas
pub mod TickLemmas
pub mod StepLemmas
pub mod SoundLemmas
pub mod SnapshotLemmas
