pub mod Holding
pub mod Machines
pub mod Outflows
pub mod Profiles
pub mod Underway
