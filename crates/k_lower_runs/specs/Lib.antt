pub mod Doing
pub mod Following
pub mod Laws
pub mod Sound
