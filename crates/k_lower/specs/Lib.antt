pub mod Promises
pub mod Sources
