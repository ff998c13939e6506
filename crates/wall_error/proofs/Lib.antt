-- The laws on the error of thickness readings. `readings_near` is item 11 of document 02.
-- Parts: errors as whole numbers
-- Dot: dot_is               the exact dot product; dot_bounded, dot_close, dot_closer: the rounded one beside it
-- Distance: reading_error   t + e, for any numbers of these sizes
-- Planes
--   plane_near              the same for a plane and a ray, as `Near`
--   asked, kept             the two pairs of figures: 1 / 50 and 1e-7, 1 / 3 and 1e-9
-- Readings
--   strike_near             any strike of a polygon of the part by another's ray, kept or not
--   readings_near           each reading of a checked file, where normal and direction have an exact dot product of at least 0.02: off by less than 1e-7
--   readings_facing         each has one of at least 1 / 3, since its hit faces back; always_facing: so the condition of 0.02 is always met
--   readings_nearer         and each is off by less than 1e-9, with no condition
--   stored_nearer           and so are the readings as they stand in the scratch
pub mod Parts
pub mod Dot
pub mod Distance
pub mod Planes
pub mod Readings
