pub mod Answered
pub mod Heads
pub mod Resume
pub mod StateCommand
pub mod Version
