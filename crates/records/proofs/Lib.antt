pub mod Fills
pub mod Lefts
pub mod Fetches
