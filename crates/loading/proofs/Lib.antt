-- Laws of digits, and cases of decimal numbers.
pub mod Digits
pub mod Cases
