-- What the lines of a list of faults are: stated (Listed) and computed (Lines).
pub mod Member
pub mod Ids
pub mod Line
pub mod Listed
pub mod Lines
