pub mod Bounds
pub mod Coming
pub mod Running
pub mod Stepping
pub mod Worlds
