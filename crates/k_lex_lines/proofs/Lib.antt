pub mod Examples
pub mod Plain
pub mod Unique
pub mod Unread
