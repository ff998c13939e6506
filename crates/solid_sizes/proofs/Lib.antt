-- The laws on sizes. An index of those that other crates cite, file by file. A `Readable` file is one that none of refusals 1 to 7 turns back, a
-- `Checked` one is turned back by none of 1 to 9 (`checked_readable` of crate solid_faces).
-- Vectors: bounds through the operations on vectors
--   wider_vec, plus_within, minus_within, times_within, cross_within, dot_within
--   square_finite, vec_length_within, vec_length_nonneg     the length, for components of at most 2^k
--   distance_within, distance_nonneg        the distance of two points of a part is at most 2^16
-- Above: x + y for an x that is not negative, x * y for an x of at least 1: no smaller than y
--   add_beyond, mul_beyond      what is at least 1 / B in size stays so
--   beyond_plus, beyond_above   such a float that is not negative has no minus sign, and is above zero
-- Opposite: dot_opposite        `a.dot(b * -1.0)` has the size of `a.dot(b)`; opposite_half: at least 0.5 where that is below -0.5
-- Means: over_within, mean_within, mean_times_within      what is at most k * b over k, and a sum of k terms times 1 / k
-- Areas
--   zero_area, add_area, wider_area         running sums of areas
--   near_area                   a polygon near the origin has an area of at most 2^37
--   readable_near, readable_area            so each polygon of a readable file
--   area_number, area_within, area_nonneg   the same, one by one
--   face_area_lem, face_area_number a face's area is at most 2^49, and no NaN
--   areas_added                 areas of at most 1,024 faces, added: at most 2^59
-- Planes
--   normal_within, normal_fit, w_within, plane_centroid_within, centroid_within     of a polygon near the origin that is not flat
--   checked_plane               each polygon of a checked file: normal within 1, w within 30,000, dfm.rs's centroid within 10,001
-- Directions
--   vec_at_fits, surface_fits   what is read from the file is an f64
--   directed_length             a direction's length is at least 0.5
--   normalized_within           a direction, normalized, has components of at most 1
pub mod Vectors
pub mod Above
pub mod Opposite
pub mod Means
pub mod Areas
pub mod Planes
pub mod Directions
