pub mod HexadecimalLaws
pub mod PatternLaws
pub mod PowerLaws
pub mod SizedLaws
pub mod StepLaws
