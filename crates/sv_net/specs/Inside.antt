-- Only the contracts of private functions use the definitions in this module.
pub mod Pausing
