pub mod Characters
pub mod EachToken
