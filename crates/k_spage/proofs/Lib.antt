pub mod Counted
pub mod Paged
