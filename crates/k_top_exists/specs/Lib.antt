pub mod Files
pub mod Graphs
pub mod Laws
pub mod Loops
pub mod Profiles
pub mod Sources
