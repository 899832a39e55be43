pub mod Code
pub mod ErrorQueue
pub mod Answered
pub mod Limits
