-- The laws on the rounds of a part. Other crates cite these:
-- FrameLaws
--   face_central            the frame of a round of an accepted part is short, and its origin near
-- RoundLaws: the kinds, and a round read back
--   kind_concave, kind_hole, kind_round     which kinds are concave, a hole, a round
--   kind-at, measure_kept                   what stands at the places of face f
--   rounds_more, rounds_skip                the list of rounds, one face more
-- PutLaws
--   face_low                a face's number is below the number of polygons
-- SurfaceLaws, KeptLaws: the steps of the functions here
pub mod FrameLaws
pub mod KeptLaws
pub mod SurfaceLaws
pub mod PutLaws
pub mod RoundLaws
