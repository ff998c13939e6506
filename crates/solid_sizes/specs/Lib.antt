-- What the laws on sizes speak of.
pub mod Sizes
pub mod Work
