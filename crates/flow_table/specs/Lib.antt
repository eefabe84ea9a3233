pub mod Flow
pub mod Gap
pub mod Index
pub mod Moved
pub mod Table
