pub mod Laws
pub mod Heads
