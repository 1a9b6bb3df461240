-- What bytes say as a decimal number.
pub mod Decimal
