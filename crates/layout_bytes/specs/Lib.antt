-- Numbers as bytes, and bytes put into a list.
pub mod Bytes
pub mod inner
