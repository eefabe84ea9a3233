mod Common
pub mod Law
pub mod Lists
pub mod Sound
pub mod Values
pub mod Written
