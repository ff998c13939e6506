-- What the functions mean that are more than a call of another crate's.
pub mod Decimal
pub mod Check
pub mod Obj
