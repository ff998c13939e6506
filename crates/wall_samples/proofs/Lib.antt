-- The laws on readings. Other crates cite these:
-- ReadingLaws: the readings of a part
--   readings_each           each is its own ray's hit: what holds of every hit that faces back holds of each reading
--   readings_inside         both polygons of a reading are polygons of the part
--   readings_most           no more than polygons
--   readings_kept           they still stand in the scratch after changes past them
-- CastLaws: one ray
--   readings_from_lem           a polygon's readings are those of the hit that faces back
-- RayLaws: the numbers of a ray, for planes of a checked file
--   e_6_within, e_6_fits    the f64 1e-6
--   dir_within, dir_fits, origin_within, origin_fits      direction and start
--   denominator_beyond      normal . direction of a hit that faces back is at least 0.5 in size
-- PicksLaws: the rays of a face, and face by face
--   picks_none, picks-more, picks_past, picks_few, readings_none, readings_more, readings_few, readings_room
-- StoredLaws: readings in the scratch
--   stored_none, stored_kept        none, and the same after changes elsewhere
--   added-none, added-then, added_one            none, some after others, and one more
-- TurnLaws, FaceLaws: the steps of the functions here
pub mod RayLaws
pub mod CastLaws
pub mod StoredLaws
pub mod PicksLaws
pub mod TurnLaws
pub mod FaceLaws
pub mod ReadingLaws
