-- The faces of a part, the planes and areas of its polygons, and what the stages keep of them.
pub mod Faces
pub mod Kept
pub mod Work
-- Passed on to the crates above.
pub use Rattle.file_ok
pub use Rattle.solid_polygon
