pub mod Functions
pub mod Landing
pub mod Laws
pub mod Sound
