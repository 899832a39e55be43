-- Only the proofs of this crate need the definitions in these modules.
pub mod Tree
pub mod Walk
