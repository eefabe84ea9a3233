pub mod Waits
pub mod Entry
pub mod Timers
pub mod Keeping
pub mod Life
