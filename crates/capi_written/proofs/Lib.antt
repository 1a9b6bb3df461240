-- What the number of a cause carries.
pub mod Causes
