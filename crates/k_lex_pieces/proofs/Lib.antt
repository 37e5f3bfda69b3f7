pub mod Classes
pub mod LiteralLaws
pub mod Longest
pub mod NameLaws
pub mod NumberLaws
pub mod PieceLaws
pub mod Tables
