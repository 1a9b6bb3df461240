-- Laws that sizing an image's tables goes by.
pub mod Going
pub mod Asked
