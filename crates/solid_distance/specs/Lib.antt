-- The distance of a point from a segment, and a segment as it is kept.
pub mod Segment
pub mod Kept
pub mod Work
