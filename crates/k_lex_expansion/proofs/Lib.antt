mod CallLaws
mod CountLaws
mod Examples
mod GatherLaws
mod ReplacingLaws
mod Running
mod Unique
