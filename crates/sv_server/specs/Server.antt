-- What it means that a server stands for a history. Histories are defined in sv_history.
pub mod State
pub mod Inside
