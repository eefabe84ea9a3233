pub mod Said
pub mod Holding
pub mod Answering
pub mod Table
pub mod Messages
pub mod Examples
pub mod Awaited
