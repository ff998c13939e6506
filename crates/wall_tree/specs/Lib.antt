-- A ray through a tree of boxes.
pub mod Work
-- Passed on to the crates above.
pub use Rattle.wall_ray
