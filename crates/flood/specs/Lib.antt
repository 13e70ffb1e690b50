pub mod Flood
pub mod Queues
