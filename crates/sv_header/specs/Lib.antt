pub mod Pattern
pub mod Table
pub mod Plain
pub mod Resolve
pub mod Laws
pub mod Arity
pub mod Inside
