pub mod Spelling
pub mod Reader
pub mod Writer
pub mod Laws
pub mod Garbage
