pub mod Cursors
pub mod Hands
pub mod Bits
pub mod Opened
