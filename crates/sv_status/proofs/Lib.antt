pub mod Words
pub mod Registers
pub mod StandardEvents
pub mod StatusBytes
