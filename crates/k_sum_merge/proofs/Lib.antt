pub mod Finished
pub mod Forests
pub mod Kept
pub mod Rules
pub mod Sized
pub mod Ways
