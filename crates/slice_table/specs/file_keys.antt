pub mod Held
pub mod Keys
pub mod Stands
pub mod Faults
