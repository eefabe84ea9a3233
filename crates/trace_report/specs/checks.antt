pub mod Asking
pub mod Deciding
pub mod Messages
pub mod OperatorSnapshot
