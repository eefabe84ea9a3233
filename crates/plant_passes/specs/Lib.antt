pub mod Runs
pub mod Histories
pub mod Seats
pub mod Passes
pub mod Steps
pub mod Rule
pub mod Turns
pub mod ViewOf
