-- The heights of a print.
pub mod Height
