-- What a call of writing leaves in cells.
pub mod Parts
