pub mod Around
pub mod Labels
pub mod Results
