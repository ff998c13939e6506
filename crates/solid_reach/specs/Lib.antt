-- Boxes around segments that are kept.
pub mod Work
