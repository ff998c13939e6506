-- What the writers leave in the slice.
pub mod Decimal
pub mod Number
pub mod Put
pub mod Work
pub mod Text
