-- The arguments that numbers stand for.
pub mod Given
