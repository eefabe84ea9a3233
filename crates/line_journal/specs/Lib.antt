pub mod Device
pub mod Found
pub mod Journal
pub mod Lines
pub mod Memory
pub mod Past
pub mod Run
