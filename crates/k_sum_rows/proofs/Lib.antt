pub mod Counted
pub mod Forests
pub mod Listed
