-- The steps of checking an image's directories, over plain lists.
pub mod OneMark
pub mod Turn
pub mod Reach
pub mod Named
pub mod Whole
