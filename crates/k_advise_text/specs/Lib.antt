pub mod Numbers
pub mod Reasons
pub mod Sources
pub mod Table
pub mod Words
