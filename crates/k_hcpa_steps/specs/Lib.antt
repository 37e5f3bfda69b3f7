pub mod Keeping
pub mod Kinds
pub mod Silent
pub mod Starting
pub mod Surely
