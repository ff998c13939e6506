-- The laws on inside corners. Other crates cite these:
-- WalkLaws
--   corners_start, next_corner, corners_end   a walk over the corners by pairs of faces: nothing yet, one pair more, and at the end `over_corners`
-- SizeLaws: length_accepted, fillet_accepted  the numbers that the message prints are never refused
-- SegmentLaws, CornerLaws, SharpLaws: the steps of the functions
pub mod SegmentLaws
pub mod CornerLaws
pub mod WalkLaws
pub mod SizeLaws
pub mod SharpLaws
