pub mod Cuts
pub mod Held
pub mod Laws
pub mod Lines
pub mod Shown
pub mod Tokens
pub mod PragmaLines
