pub mod Braces
pub mod Objects
pub mod Results
pub mod Sizes
