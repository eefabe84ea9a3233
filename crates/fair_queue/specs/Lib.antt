pub mod Fair
pub mod Items
pub mod Laws
pub mod Runs
