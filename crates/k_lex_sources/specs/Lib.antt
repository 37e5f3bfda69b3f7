pub mod Laws
pub mod Rows
pub mod Splicing
pub mod Taking
pub mod Turning
