pub mod Deciding
pub mod Dialing
pub mod Projections
pub mod Telling
pub mod OneStep
pub mod StillSettled
pub mod AlwaysTold
pub mod Unrecorded
