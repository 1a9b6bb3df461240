-- Laws of what is told of a reading, of what a reading gives, by its tests and read backwards, of a table read in its own part of a window, and of the numbers of rules.
pub mod Told
pub mod Located
pub mod Fit
pub mod Moved
pub mod Cases
pub mod Rules
