pub mod Company
