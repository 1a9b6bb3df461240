-- Laws of the order of names, what std's methods give of bytes, and what the comparing functions are made of.
pub mod Laws
pub mod Keys
pub mod Turn
pub mod Front
pub mod Raised
pub mod Cases
