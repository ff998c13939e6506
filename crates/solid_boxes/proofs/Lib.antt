-- The laws on boxes. Other crates cite these:
-- OwnLaws
--   own_tidy                the own box of a polygon of an accepted part, as the slab formula takes it, is finite and has an inside
--   small-count             an accepted part has at most 4,096 polygons
--   own_run                 the own box in the words of the functions that read the file
-- OrderLaws, StartLaws, BoxLaws: the steps of the functions here
pub mod OwnLaws
pub mod OrderLaws
pub mod StartLaws
pub mod BoxLaws
