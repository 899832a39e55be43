-- A connection: the bytes that came, the bytes that wait to be sent, and the record that was taken
-- but is neither answered nor dropped yet.
pub mod Representation
pub mod Inside
