pub mod Serving
pub mod Spending
pub mod Turns
pub mod Courses
