pub mod Common
pub mod TakeLemmas
pub mod ReceiptLemmas
pub mod RoomLemmas
