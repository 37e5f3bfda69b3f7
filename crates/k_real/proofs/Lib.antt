pub mod CodeLaws
pub mod DigitLaws
pub mod GeneralLaws
pub mod PrecisionLaws
pub mod RoundingLaws
pub mod ScientificLaws
pub mod SizeLaws
pub mod WholeParts
