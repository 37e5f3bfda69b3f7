pub mod Drawn
pub mod Handed
