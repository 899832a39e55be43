pub mod Fields
pub mod Buffer
pub mod Spelled
pub mod Appended
pub mod Whole
pub mod PrefixFree
