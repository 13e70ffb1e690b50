pub mod Flawed
pub mod Told
pub mod Judged
pub mod Answers
pub mod Held
pub mod Calls
