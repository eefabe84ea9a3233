pub mod Common
pub mod Counts
pub mod Waiting
pub mod Firsts
pub mod Spent
pub mod Courses
pub mod Turned
