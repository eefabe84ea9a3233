pub mod live
pub mod Waiting
pub mod Recorded
pub mod RecordView
pub mod CoreView
