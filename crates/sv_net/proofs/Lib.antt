mod Placed
mod Pausing
mod Running
mod Added
mod Among
mod Asked
mod OptionsRead
