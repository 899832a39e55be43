-- Only the proofs of this crate need the definitions in this module.
pub mod Acted
