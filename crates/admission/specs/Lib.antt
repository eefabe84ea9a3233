pub mod Free
pub mod Window
pub mod Ledger
pub mod Place
pub mod Kept
