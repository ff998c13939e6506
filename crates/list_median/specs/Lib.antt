-- The value at half the total weight.
pub mod Median
pub mod Work
