pub mod Lists
mod Operators
pub mod Recording
pub mod Serially
