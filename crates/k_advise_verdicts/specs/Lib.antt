pub mod Figures
pub mod Laws
pub mod Placing
pub mod Standings
pub mod Told
pub mod Verdicts
