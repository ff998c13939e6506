-- What the part file of OBJ text says.
pub mod Found
pub mod Refusals
