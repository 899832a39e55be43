pub mod Sockets
pub mod Sleep
pub mod Serving
pub mod Program
pub mod Words
pub mod Inside
