pub mod Closing
pub mod Outermost
pub mod Whole
