-- What the inch writer leaves in the slice, and what the nearest whole number is.
pub mod Inch
pub mod Nearest
