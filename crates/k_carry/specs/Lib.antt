pub mod Answer
pub mod Noting
pub mod Running
pub mod Sources
pub mod Steps
