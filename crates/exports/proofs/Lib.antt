-- Laws behind the functions that are more than a call.
pub mod Decimal
pub mod Check
pub mod Obj
