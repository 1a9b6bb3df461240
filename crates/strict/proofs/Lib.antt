-- Names, the stack of visits, the map of units, verdicts, a turn of the loop.
pub mod Here
pub mod Names
pub mod Stack
pub mod Units
pub mod Judging
pub mod Sized
pub mod Turn
pub mod Moved
