-- Where a name stands in a window.
pub mod Name
