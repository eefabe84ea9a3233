pub mod Merge
pub mod Callers
pub mod Straying
pub mod OwnParts
pub mod Framing
pub mod Settling
