pub mod Beginnings
pub mod Laws
pub mod Parse
pub mod Runs
