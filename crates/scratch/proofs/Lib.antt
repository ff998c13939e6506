-- The laws on the regions of the scratch, and on the answer. Other crates cite these:
-- RegionLaws
--   only_regions                        the regions follow from the counts and from what is asked for
-- StandingLaws
--   placed_polygons, placed_vertices    the counts of the part
--   standing_kept                       the body still stands after changes past its regions
--   standing_still                      and after those that `BodyKept` allows: body-same, body_then, body_past, body_sorted
-- WordsLaws
--   face_at_lem, first_at_lem                   the face of a polygon, the first polygon of a face
--   begins_at, link-at                  that polygon begins the face; the next polygon of a polygon's face
-- RefusalLaws
--   put_checked, put_room               what a refusal of 0 says
pub mod RegionLaws
pub mod WordsLaws
pub mod RealsLaws
pub mod StandingLaws
pub mod TreeLaws
pub mod RefusalLaws
