pub mod ExitLine
pub mod LineLaws
pub mod Merged
pub mod SumLines
pub mod SumRules
