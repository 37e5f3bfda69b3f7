pub mod Behind
pub mod Calling
pub mod Counted
pub mod Operations
pub mod Returning
pub mod Starting
pub mod Stepped
