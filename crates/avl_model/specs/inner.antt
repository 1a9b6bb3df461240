-- What only inner contracts cite.
pub mod Names
pub mod Rep
pub mod Lists
pub mod Held
pub mod Seek
pub mod Insert
pub mod Columns
pub mod Order
