pub mod Headers
pub mod Macros
pub mod Steps
pub mod Table
