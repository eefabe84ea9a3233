pub mod ByName
pub mod Restarted
pub mod Saving
pub mod Changing
pub mod Noticing
pub mod Refused
