-- The laws on the heights of a part.
-- HeightLaws
--   heights_none, heights_more, heights_all     no vertex, one more, and all of them
pub mod HeightLaws
