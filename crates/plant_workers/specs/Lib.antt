pub mod receipts
pub mod cell_state
pub mod audit
pub mod plan
pub mod Parts
pub mod Refusing
pub mod Faulting
pub mod Cells
