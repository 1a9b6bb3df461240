-- What only inner contracts cite.
pub mod Forward
pub mod Taken
