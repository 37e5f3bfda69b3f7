pub mod Args
pub mod HaveLevels
pub mod InLanes
pub mod LanesGiven
pub mod LanesHanded
pub mod Leaving
pub mod Lists
pub mod Within
