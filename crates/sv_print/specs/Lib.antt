pub mod TakenByWriter
pub mod Parts
pub mod Printed
