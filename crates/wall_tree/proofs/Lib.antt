-- The laws on rays through boxes. Other crates cite these:
-- AxisLaws: near-up, far_up, near-down, far_down        where a ray meets the bounds of a wider box, against where it meets those of a box inside it
-- AimLaws: opens_sound      a box is opened if the ray passes a box inside it and enters that no later than the limit
-- BestLaws: polygons tried in any order, the lower number first on equal times, give the scan's hit
-- SpanLaws, WalkLaws, RaycastLaws: the steps of the functions here
pub mod AxisLaws
pub mod SpanLaws
pub mod BestLaws
pub mod AimLaws
pub mod WalkLaws
pub mod RaycastLaws
