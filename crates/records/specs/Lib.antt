pub mod Lefts
pub mod Fetches
