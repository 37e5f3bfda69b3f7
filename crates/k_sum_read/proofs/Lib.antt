pub mod AnyFiles
pub mod Ending
pub mod ExitSteps
pub mod Leading
pub mod ListSteps
pub mod RootSteps
pub mod Whole
