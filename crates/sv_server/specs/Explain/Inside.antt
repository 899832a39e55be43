-- Only the contracts of private functions use these definitions. A reader who trusts the prover
-- needn't check them.
pub mod Steps
pub mod Conns
pub mod Unlisted
