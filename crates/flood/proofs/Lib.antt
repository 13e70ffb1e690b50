pub mod Sets
pub mod Queues
pub mod Floods
pub mod Orbits
