pub mod Events
pub mod Opens
pub mod Steps
pub mod Wholes
