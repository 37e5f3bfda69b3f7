pub mod Document
pub mod Records
pub mod Table
