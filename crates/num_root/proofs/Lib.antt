-- The laws behind the root, lowest first. `Nearest` has what a caller cites of the meaning: square_root, only_root, nearest_unique.
pub mod Squares
pub mod Patterns
pub mod WholeRoot
pub mod Rounded
pub mod Exponent
pub mod Fields
pub mod Signs
pub mod Units
pub mod Nearest
