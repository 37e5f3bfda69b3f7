pub mod Left
pub mod Sited
