-- Theorems about the part file of OBJ text, where none of item 1's refusals is met.
-- fields of what is left of a list (`u32_drop`), and read back from their bytes (`f64_back`)
pub mod FieldLaws
-- what stands at each place of the file
pub mod PlaceLaws
-- a job that stands in a file is read as it was given (`job_in`)
pub mod JobLaws
-- the file's part has the text's polygons and vertices, and the job given (`same_polygons`, `same_vertices`, `same_job`)
pub mod Polygons
-- which refusals the file can meet (`verdict_of_written`, `can_meet`)
pub mod Refusals
-- small texts, computed
pub mod Samples
