pub mod AloneLaws
pub mod BracesLaws
pub mod Declarators
pub mod Declaring
pub mod SizesLaws
pub mod Lists
pub mod Placing
