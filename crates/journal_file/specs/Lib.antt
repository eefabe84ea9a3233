pub mod Disk
pub mod Events
pub mod File
