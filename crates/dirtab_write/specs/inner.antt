-- What only inner contracts cite.
pub mod Columns
pub mod Holds
