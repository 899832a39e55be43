pub mod Since
pub mod Each
