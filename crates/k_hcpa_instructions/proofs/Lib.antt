pub mod AtOnce
pub mod Behind
