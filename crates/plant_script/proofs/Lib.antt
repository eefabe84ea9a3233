mod Common
pub mod CaptureRuns
pub mod HalfDone
pub mod LiveRuns
pub mod Reached
pub mod RefusedSteps
pub mod RunSoFar
pub mod Services
pub mod StepRuns
pub mod Tasks
pub mod Telling
pub mod ThreadedRuns
pub mod TracedRuns
pub mod Unreadable
