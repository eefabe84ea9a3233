pub mod NoteMembers
pub mod Props
pub mod Sources
pub mod Writable
pub mod Written
