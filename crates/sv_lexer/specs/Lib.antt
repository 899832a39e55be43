pub mod Spelled
pub mod Token
pub mod Unit
pub mod Parameters
pub mod Order
pub mod Partial
pub mod Inside
