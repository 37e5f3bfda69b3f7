pub mod Performed
pub mod Recorded
pub mod Steps
pub mod Running
pub mod Telling
