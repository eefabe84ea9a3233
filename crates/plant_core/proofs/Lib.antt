pub mod LiveLemmas
mod Common
pub mod WaitingLemmas
pub mod RecordLemmas
pub mod StepLemmas
pub mod GiveLemmas
pub mod OpenLemmas
pub mod ReachLemmas
pub mod FollowLemmas
pub mod RunLemmas
