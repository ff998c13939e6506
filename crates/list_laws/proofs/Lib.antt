-- The laws on the numbers below n, on parts of a slice, and on its cells.
-- Below
--   all-none, all-more      no number, and one more
--   all_each                a test that holds of all holds of each
--   all_fails               one number of which it fails
--   all_by                  from each to all
--   sum_none, sum-more      no term, and one more
--   sum_within              the terms below i and the term i are at most all
-- Count: how many pass, and the lowest that does
--   count-none, count_more, count-same          no number, one more that passes, and one that does not
--   count_le, count_mono, count-less            at most all; no fewer with more numbers; more after one that passes
--   lowest_le, lowest_passes, lowest_least      what `lowest_below` is; lowest_is: nothing else is; lowest_below_lem: what passes is no lower
-- Regions: a slice of which a part was lent
--   part-length, put_length the lengths
--   part_put                the part that was lent holds what was put there
--   part_before, part_after the parts before it and after it are as they were
--   put_before, put_inside, put_after, part_place      single places; part_set: one store into a part
-- Stores: the cells of a list after a run of stores, one cell after another
--   stores_length, stores_below, stores_above, stores-at
-- Fill: cells that hold one value
--   fill-more, filled-at
-- Outside: slices that changed between two places only
--   outside_none, outside_then, outside_wide           no change, one after another, more cells
--   outside-set, outside_two, outside_put              stores, and a part that was put
--   part_kept, outside_part, outside_after             the parts that are as they were
pub mod Below
pub mod Count
pub mod Regions
pub mod Stores
pub mod Fill
pub mod Outside
