-- A cylindrical face about its axis.
pub mod Frame
pub mod Polygons
pub mod Measure
pub mod Work
