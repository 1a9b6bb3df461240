-- What the two writers of tables leave is what is listed and found; and a list that adding takes is refused only 7, 8 or 9.
pub mod Checks
pub mod Stands
pub mod OfList
pub mod OfArena
pub mod Instances
