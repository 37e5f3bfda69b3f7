pub mod Counting
pub mod ExitLists
pub mod Joins
pub mod Bounds
pub mod Meaning
pub mod Programs
pub mod Endings
