pub mod Text
pub mod Faces
