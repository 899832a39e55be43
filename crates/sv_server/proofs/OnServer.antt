-- Lemmas about the server: its logs, its Turns, and the steps that are due.
pub mod Taken
pub mod Used
pub mod Aborting
pub mod Logs
pub mod Going
pub mod Steps
pub mod Settled
pub mod Standing
pub mod Turned
pub mod Turning
pub mod Refusals
pub mod Calls
pub mod Naming
