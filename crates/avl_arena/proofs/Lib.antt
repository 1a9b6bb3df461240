-- The arena test is `HeldTree`, and the ways out of the code.
pub mod Tested
pub mod Looked
pub mod Parts
pub mod ByName
pub mod Decoded
pub mod Sound
pub mod Complete
pub mod Taken
pub mod Cases
