-- Laws of adding, and the ways out of the code.
pub mod Room
pub mod Growing
pub mod Ways
pub mod Told
pub mod Given
pub mod Again
pub mod Cases
