pub mod CutLaws
pub mod Outcomes
pub mod PlainLaws
pub mod RunLaws
pub mod TextLaws
pub mod TokenLaws
mod PragmaLaws
