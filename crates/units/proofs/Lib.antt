-- Laws of what is told, of what a region's answer says, and of where a part of a slice stands.
pub mod Told
pub mod Locating
pub mod Parts
