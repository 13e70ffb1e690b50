pub mod Room
pub mod Words
