-- The thickness readings by their pairs of faces.
pub mod Walls
pub mod Work
