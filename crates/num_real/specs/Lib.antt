-- What the functions on floats mean.
pub mod Bits
pub mod Rounding
pub mod Select
