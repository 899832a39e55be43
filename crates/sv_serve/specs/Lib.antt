pub mod Heard
pub mod DriverView
pub mod Asked
pub mod Steps
pub mod Sweep
pub mod Premises
pub mod Still
