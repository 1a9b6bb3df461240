-- What the bytes of an entry before its name say.
pub mod Header
