mod Common
pub mod Passes
pub mod Grammar
pub mod Replies
pub mod Typed
