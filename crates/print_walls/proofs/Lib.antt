-- The laws on the walls of a print.
-- ThinnestLaws: the thinnest reading of two faces
--   sample_thinner, sample_other        one reading more, in the words of `with_sample`
--   thinnest_start, thinnest_more, thinnest_end         the loop
--   thinnest_bounds                     it is a reading's thickness
--   sample_in_place                     the reading at a place of the order, in the words of `sample_in_order`
-- FaultLaws: one wall
--   floor_none, floor_layer, floor_few  a floor or roof
--   side_none, side_nozzle, side_thin   any other wall
--   by_floor, by-side                   by what the reading goes through
-- WalkLaws: met_none, met-next, met-all, wall_room        the walk over the walls
pub mod ThinnestLaws
pub mod FaultLaws
pub mod WalkLaws
