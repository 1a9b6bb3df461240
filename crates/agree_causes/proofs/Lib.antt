-- WHAT WRITING AND PLANNING ANSWER, by its cause (specs/ has the words), and what the starred cases rest on.
--     OfList      list_outcome, turn_outcome: a list written at once, or added in turn and serialised
--     Sectors     free_is: the next free sector is the first and what the entries take together
--     OfPlan      plan_outcome: a plan
--     One         one_outcome, one_plan: a cause has one answer
--     Bridge      plan_given, plan_never_5: from the contract of planning to a plan that is given; and never 5
--     Listed      walk_lists, check_lists, check_listed: what a walk and a strict check answer and leave, from what they list; and back
--     Endless     empty_ends: a chain in a table of size 0 ends
--     Serialised  serialised_arena: what was serialised passed the test of an arena
--     Thin        thin-size, none_fewer: the fewest nodes of a height
--     Links       never_linked, left_bytes: no link is 65,535, and one to 262,128 is 65,532
mod Checks
mod Growing
pub mod Sectors
pub mod OfList
mod Down
mod Up
pub mod OfPlan
pub mod One
pub mod Bridge
pub mod Listed
pub mod Endless
pub mod Serialised
pub mod Thin
pub mod Links
