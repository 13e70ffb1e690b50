pub mod BitLists
pub mod Cursors
pub mod Hands
