pub mod ScriptLemmas
mod Common
pub mod FrontLemmas
pub mod LeftLemmas
pub mod StepLemmas
pub mod LineLemmas
pub mod ReadLemmas
pub mod ServiceLemmas
