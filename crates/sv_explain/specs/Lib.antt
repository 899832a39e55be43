pub mod Value
pub mod Lines
pub mod Shown
pub mod Values
pub mod Changes
pub mod Steps
pub mod Inside
