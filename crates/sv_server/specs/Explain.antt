pub mod Telling
pub mod Inside
