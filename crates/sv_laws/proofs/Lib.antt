mod Facts
mod SameOutcomes
mod ChannelsAlike
mod LinksAlike
mod CallsAlike
mod Closed
mod Stillness
pub mod OneLog
mod EveryLog
mod Isolation
mod Cuts
pub mod NoneLate
pub mod EachAnswered
pub mod RepliesMatch
pub mod TurnAnswered
pub mod Brought
pub mod OnlyCalls
pub mod ShutIsClear
pub mod NothingLost
pub mod OnlyRequests
pub mod CanBeRefused
pub mod TicksTaken
pub mod InOrder
mod Place
mod Sound
mod SoundEvents
mod Gone
mod InTime
mod Conformance
mod Placed
mod InLine
mod Leaving
mod FreshStart
mod Passing
mod Overtaking
mod Holding
mod Locking
mod AnsweredInTime
mod Patience
mod EachWait
mod Alone
mod Taking
mod NoneRefused
