-- How puts compose, one byte more put, numbers written and read back, and what every byte is.
pub mod Put
pub mod Turns
pub mod Every
pub mod Numbers
