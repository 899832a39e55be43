pub mod Places
pub mod Parts
