-- The edges between faces.
pub mod Edges
pub mod Neighbours
pub mod Distance
pub mod Work
