-- Laws of an entry's fourteen bytes.
pub mod RoundTrip
pub mod Cases
pub mod Blank
pub mod Words
