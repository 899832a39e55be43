-- Only the code and the proofs of this crate need these definitions.
pub mod Stage
pub mod Moved
pub mod Finish
