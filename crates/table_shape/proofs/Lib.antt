-- A table that the strict check accepts is an ordered tree, and every entry of it is found by its name.
--     Found    THE THEOREMS, of a table that is accepted
--     Cases    worked tables
-- over
--     Trees    laws of the trees themselves
--     Walked   the tree of a walk that ends, and the walk of a tree; that its names are in order
--     Few      how many entries it has at most
--     Reaches  what a lookup in a tree answers
--     Ways     the ways in a tree
--     Obeys    a tree in order obeys the rule
pub mod Trees
pub mod Walked
pub mod Few
pub mod Reaches
pub mod Ways
pub mod Obeys
pub mod Found
pub mod Cases
