mod Printing
pub mod Records
