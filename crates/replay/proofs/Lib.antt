pub mod Laws
pub mod Cases
pub mod Finished
pub mod Replays
