pub mod Examples
pub mod TakingLaws
