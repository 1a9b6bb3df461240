-- What adding asks of an entry, the size that it is stored with, and entries in columns.
pub mod Entry
pub mod Entries
