-- The laws on the faces that hang over. Other crates cite these:
-- SizeLaws
--   overhang_few                        at most 1,024 faces of a checked file hang over
--   overhang_within, overhang_nonneg    their area is at most 2^59, and not negative
--   overhang_some, overhang_none        some face hangs over, or none does: as the count is 1 at least, or 0
-- RankLaws
--   rank_face, face_rank                each rank below the number of faces is some face's
-- PolygonLaws, AreaLaws, RankLaws, MarkLaws, PutLaws: the steps of the functions here
pub mod PolygonLaws
pub mod AreaLaws
pub mod RankLaws
pub mod MarkLaws
pub mod PutLaws
pub mod SizeLaws
