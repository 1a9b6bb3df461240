-- Laws of the walk's definition, and one turn of its loop.
pub mod Stack
pub mod Steps
pub mod Turn
pub mod Told
pub mod Cases
pub mod Moved
pub mod Kept
