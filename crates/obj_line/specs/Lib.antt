-- The lines of OBJ text, and the form of each.
pub mod Split
pub mod Form
pub mod Work
