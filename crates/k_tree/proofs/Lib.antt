pub mod Begin
pub mod Bounds
pub mod Examples
pub mod Folds
pub mod Laid
pub mod Prefix
pub mod Ranks
pub mod Standing
