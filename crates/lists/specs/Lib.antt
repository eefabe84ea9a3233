pub mod First
pub mod Padding
pub mod Results
