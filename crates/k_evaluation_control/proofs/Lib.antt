pub mod Ends
pub mod Kept
pub mod Rows
pub mod Starts
pub mod Statements
pub mod Tidy
