-- Turns of the loops over a map of units.
pub mod Turn
