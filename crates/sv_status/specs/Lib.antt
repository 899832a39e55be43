pub mod Register
pub mod StandardEvent
pub mod StatusByte
pub mod Answered
