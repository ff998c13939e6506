-- The faces of a print that hang over.
pub mod Overhang
pub mod Kept
pub mod Work
