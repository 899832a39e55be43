-- What the replay of an event writes.
pub mod Replays
pub mod Inside
