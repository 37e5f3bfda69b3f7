pub mod Getchar
pub mod Noting
