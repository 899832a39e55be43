-- Lemmas about the state that `explain` shows.
pub mod Lists
pub mod Links
pub mod Calls
pub mod Conns
pub mod Never
