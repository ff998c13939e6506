-- The laws on boxes around segments. Other crates cite these:
-- ReachLaws
--   no_nearer                            a box that is no nearer than x spares the distances from the segments inside
--   with_new, with_old                   a segment more: it is inside, and so are those that were
--   put-same, put_kept, reach_same       what stands where a box is put, and elsewhere; holds-same
-- GapLaws: the same on one axis
pub mod GapLaws
pub mod ReachLaws
