-- What is supposed of a table that was written, and what reading it finds.
pub mod Written
pub mod Agreement
pub mod Given
pub mod Cases
