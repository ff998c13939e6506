-- What the fields of a line of OBJ text are as numbers.
pub mod Cut
pub mod Whole
pub mod Decimal
pub mod Work
