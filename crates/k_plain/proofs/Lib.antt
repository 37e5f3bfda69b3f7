pub mod Advancing
pub mod Exits
pub mod Going
pub mod Listed
