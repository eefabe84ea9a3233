pub mod HeldView
pub mod Oldest
pub mod Receiving
pub mod Refusing
pub mod Taking
pub mod Telling
