pub mod Judging
pub mod LeftForms
pub mod Passing
