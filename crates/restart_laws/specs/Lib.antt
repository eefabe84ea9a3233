pub mod Restarting
pub mod Processes
