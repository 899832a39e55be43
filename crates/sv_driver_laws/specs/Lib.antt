pub mod Timed
pub mod Served
pub mod Carried
pub mod Determined
