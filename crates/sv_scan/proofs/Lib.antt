pub mod Padding
pub mod Searches
pub mod Untouched
pub mod Runs
pub mod Stands
pub mod EachSet
