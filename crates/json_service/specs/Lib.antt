pub mod Numbers
pub mod Served
