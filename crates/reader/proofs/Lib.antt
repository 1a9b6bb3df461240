-- Laws of a reader.
--     Moves        placed where a lookup found an entry, it reads that entry, and going in there is what a path does with the part
--     Walk         its links are the walk's; the position alone does not say what is next in the walk
pub mod Moves
pub mod Walk
