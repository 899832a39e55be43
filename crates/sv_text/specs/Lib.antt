pub mod Cut
pub mod Front
pub mod Header
pub mod White
