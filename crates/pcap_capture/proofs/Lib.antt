mod Common
pub mod AddressLemmas
pub mod BitLemmas
pub mod HeldLemmas
pub mod OneCapture
pub mod ReadLemmas
pub mod RunLemmas
pub mod TimeLemmas
