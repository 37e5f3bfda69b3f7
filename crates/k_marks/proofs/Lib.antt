pub mod KnownLaws
pub mod TableLaws
pub mod FlagLaws
pub mod LoopLaws
