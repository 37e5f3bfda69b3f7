pub mod AtOnce
pub mod Kinds
