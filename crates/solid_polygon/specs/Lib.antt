-- Planes, areas and centroids of polygons.
pub mod Polygon
pub mod Plane
pub mod Work
-- Passed on to the crates above.
pub use Rattle.file_part
