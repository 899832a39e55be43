pub mod Left
pub mod Unbroken
pub mod Told
pub mod Printed
pub mod Runs
