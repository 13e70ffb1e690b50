pub mod Replays
pub mod Writes
pub mod Demands
