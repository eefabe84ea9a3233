mod Common
pub mod Few
pub mod Opens
pub mod Replies
pub mod Inbox
pub mod Judged
pub mod Nested
pub mod Replays
pub mod Room
pub mod Serving
pub mod Resumes
pub mod SoundState
pub mod UnderState
pub mod Working
