-- The laws on part files. Other crates cite these:
-- PartLaws: the part in the words of the functions that read the file
--   part_vertices, part_polygons, part_vertex, part_first, part-count, part_face, part_surface, part_job, part_name
-- CornerLaws: a coordinate's pattern is no NaN's
-- SurfaceLaws: the steps of `surface`
pub mod PartLaws
pub mod CornerLaws
pub mod SurfaceLaws
