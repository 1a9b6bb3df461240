-- Laws of the tests of what is lent for a plan.
pub mod Adding
pub mod Fewest
