mod Recording
mod Replaying
