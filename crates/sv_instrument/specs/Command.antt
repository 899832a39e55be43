-- Commands: the order that a unit gives, with the values of its parameters.
pub mod Order
pub mod Unit
