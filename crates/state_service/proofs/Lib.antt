pub mod ResumedLemmas
pub mod DurableLemmas
mod Common
pub mod ReadLemmas
pub mod CommandLemmas
pub mod ServeLemmas
pub mod KeepLemmas
pub mod CrashLemmas
pub mod BeginLemmas
pub mod ServiceFaultLemmas
