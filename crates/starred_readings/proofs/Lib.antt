-- The readings at the edge.
pub mod Readings
