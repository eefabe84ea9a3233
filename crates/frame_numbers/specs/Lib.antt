pub mod Seen
pub mod Renumbered
pub mod Time
pub mod Numbering
