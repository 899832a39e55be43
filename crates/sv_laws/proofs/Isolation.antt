-- Isolation: the log with the events of other connections and the log without them are alike for
-- the connection whose link holds the lock.
pub mod Alike
pub mod Shut
pub mod OthersEvents
pub mod OwnEvents
pub mod Draining
pub mod SettlesAlike
pub mod Isolated
