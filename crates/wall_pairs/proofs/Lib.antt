-- The laws on readings by pairs of faces. Other crates cite these:
-- WallLaws
--   walls_start, next_wall, walls_end   the walk: nothing yet, one pair more, and at the end `over_walls`
--   walls_below, walls_inside           what stands in the order are readings, and their faces are faces of the part
-- KeptLaws
--   readings_kept, rounds_kept          readings and rounds still stand after sorts
--   walls_only                          `order_walls` is such a sort; `put_ranks` says so itself (`RanksPut`, field `only`)
-- StepLaws: the steps of the functions here
pub mod WallLaws
pub mod KeptLaws
pub mod StepLaws
