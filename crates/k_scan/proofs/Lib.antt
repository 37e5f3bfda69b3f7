pub mod BelowZero
pub mod Digits
pub mod Front
pub mod Texts
