pub mod script
pub mod Bytes
pub mod Ends
pub mod Front
pub mod Lines
pub mod Service
pub mod SoFar
pub mod Steps
