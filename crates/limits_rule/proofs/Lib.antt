-- The marks; what each step answers; the outcomes, each with its cause; when the loader accepts, and which numbers there are.
pub mod Marks
pub mod Steps
pub mod Outcomes
pub mod Numbers
pub mod Cases
pub mod Refused
pub mod Told
