pub mod Constructs
pub mod Folds
pub mod Judging
pub mod Lists
pub mod Values
