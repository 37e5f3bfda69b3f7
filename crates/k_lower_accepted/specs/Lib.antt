pub mod Accepted
pub mod Laws
pub mod Sound
