-- The laws on the polygons that the rays start from. Other crates cite these:
-- ShareLaws: how many rays a face gets
--   share_least, wanted_least, step_least        at least one
--   wanted_is               from areas that were kept; step_one, step_more: the two arms of a step
-- KeptLaws: what the lent slices hold
--   falling_kept            areas of a part stand negated
--   ordered_place           the polygon at a place of an order
-- OrderLaws: the polygons of a face
--   face_each, face_rises, face_some             each is of the face, they rise, there is one
--   ordered_length, ordered-same, ordered_each   their order by falling area has the same polygons
--   ordered_falls, ordered_stable                no area is greater than one at its left, and no number lower where areas are equal
--   lengths-none, lengths_more, lengths_within, lengths_all      how many polygons the first n faces have: at most all
--   in_order_keys, falling_at                    keys that agree give one order; the keys are the areas negated
--   comes_by_area           the comparison by kept keys is the one that computes both areas anew
-- PassingLaws, SortLaws: the steps of the functions here. Samples: shares and steps computed
pub mod PassingLaws
pub mod ShareLaws
pub mod KeptLaws
pub mod OrderLaws
pub mod SortLaws
mod Samples
