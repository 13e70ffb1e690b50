pub mod Paths
pub mod Ways
pub mod Thirds
pub mod Sweeps
pub mod Blocks
