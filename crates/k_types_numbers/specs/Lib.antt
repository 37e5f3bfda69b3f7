pub mod Counting
pub mod Forms
pub mod Renumbering
pub mod Steps
