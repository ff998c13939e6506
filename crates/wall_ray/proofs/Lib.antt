-- The laws on rays. Other crates cite these:
-- NearestLaws
--   best_is_nearest         what is found by trying every number is the nearest, with no order of trying
--   nearest_fixes           nothing else is, where no time is a NaN
--   hit_struck, hit_nothing what a ray's hit says of the polygons
--   hit_is_nearest, hit_answer, only_hit                a ray's hit is the nearest, and nothing else is
-- StruckLaws
--   struck_crosses          what is struck passes `raycast`'s test
--   struck_reached          and its own box, at the entry distance or later
--   struck_number           no polygon is struck at a NaN
-- SlabLaws: reached_passes, reached_after     the two tests of a stretch
-- ScanLaws: open-is         from a ray that strikes nothing to `is_open`
-- StrikeLaws, TryLaws: the steps of the functions here
pub mod StrikeLaws
pub mod SlabLaws
pub mod StruckLaws
pub mod NearestLaws
pub mod TryLaws
pub mod ScanLaws
