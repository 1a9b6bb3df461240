-- The lists and images that are spoken of, and what writing and planning them answers, by its cause; the thinnest
-- trees.
pub mod Lists
pub mod Plans
pub mod Thin
