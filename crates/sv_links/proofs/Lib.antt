pub mod Queues
pub mod Counted
mod Found
mod Creating
mod Anew
pub mod OneOldest
pub mod Locks
pub mod Slots
pub mod Tables
mod Named
pub mod Closing
pub mod Live
pub mod Left
mod Requests
mod Going
mod Sent
mod Calling
pub mod Asking
pub mod Rising
mod Acts
