pub mod AsBox
pub mod CodeLemmas
pub mod EndLemmas
pub mod FetchLemmas
pub mod HandleSteps
pub mod PutLemmas
pub mod StepLemmas
pub mod SavedLemmas
