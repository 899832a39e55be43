-- Lemmas about the state of a connection.
pub mod Replies
pub mod Connections
