-- What only inner contracts cite.
pub mod Scratch
pub mod Arranging
