pub mod Conditions
pub mod Founds
pub mod Headers
pub mod Readers
pub mod Steps
pub mod Texts
pub mod Told
