pub mod Bodies
pub mod Called
pub mod CleanRows
pub mod CleanRuns
pub mod Evaluated
mod Examples
pub mod Executed
pub mod Kept
pub mod Loops
pub mod Parts
pub mod Rows
pub mod Runs
pub mod StatementJumps
pub mod Written
