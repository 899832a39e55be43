pub mod Fitting
pub mod Clash
pub mod Rows
pub mod Resolution
pub mod Walking
