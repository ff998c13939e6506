-- Volume: volume_of, the sum over the triangles of a body; Volumes.
pub mod Volume
-- Passed on to the crates above.
pub use Rattle.solid_bodies
pub use Rattle.solid_bodies.specs.solid_segments
