pub mod Counting
pub mod Moving
pub mod Returned
pub mod Ruled
