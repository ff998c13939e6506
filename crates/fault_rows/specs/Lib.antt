-- What a lent slice of fault rows holds.
pub mod Rows
