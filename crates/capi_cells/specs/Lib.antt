-- What the cells that are lent for an answer hold after it, and the parts of answers that they are for.
pub mod Cells
pub mod Parts
