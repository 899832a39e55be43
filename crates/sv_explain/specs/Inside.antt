-- Texts by the types of the code.
pub mod Names
