pub mod Knowing
pub mod Moving
pub mod OneRun
pub mod Placing
pub mod Telling
