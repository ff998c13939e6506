-- The laws on a cylindrical face about its axis. Other crates cite these:
-- FrameLaws: sizes
--   VecBounded, central     the frame of a near origin and a short direction is short
--   vertex_packable         about such a frame the direction of a vertex can be packed
-- RunLaws, ChoiceLaws, BoreLaws: the steps from corner to corner and from polygon to polygon
pub mod FrameLaws
pub mod RunLaws
pub mod ChoiceLaws
pub mod BoreLaws
