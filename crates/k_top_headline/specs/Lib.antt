pub mod Headline
pub mod OtherCommands
pub mod Replay
pub mod Sums
