pub mod ConditionLaws
pub mod FoundLaws
pub mod ReaderLaws
pub mod StepLaws
pub mod TextLaws
pub mod TokenLaws
