pub mod Heads
pub mod Names
pub mod Loops
pub mod Written
