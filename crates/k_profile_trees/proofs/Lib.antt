pub mod Children
pub mod Grown
pub mod Labels
pub mod Rules
pub mod Shapes
pub mod Within
