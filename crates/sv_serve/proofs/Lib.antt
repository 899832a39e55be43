pub mod Joined
mod Unused
pub mod Suited
mod Pieces
mod Branches
