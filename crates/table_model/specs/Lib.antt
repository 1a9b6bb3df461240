-- What a directory table is: entries, their places, and the bytes.
pub mod Entry
pub mod Place
pub mod Table
pub mod Said
pub mod inner
