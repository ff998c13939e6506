-- Boxes around polygons, and a tree of them.
pub mod Bounds
pub mod Tree
pub mod Work
