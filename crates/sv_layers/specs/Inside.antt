-- How the log of each layer follows from the acts of the instrument. The laws of this crate
-- (Laws.antt) say that these logs agree with the definitions outside of this module, which search
-- the instrument's log.
pub mod LayerLogs
pub mod Representation
