-- Laws of the sector counter.
pub mod Told
pub mod Laws
pub mod Taking
