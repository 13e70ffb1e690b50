pub mod Spans
pub mod Bodies
pub mod Tallies
pub mod Classes
pub mod Answers
