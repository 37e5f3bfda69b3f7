pub mod Growth
pub mod Kept
pub mod Marks
pub mod Spelled
