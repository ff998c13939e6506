-- Laws on lent slices of fault rows.
-- RowsLaws
--   painted_none, painted_one, painted_length, painted_at       a list with its first n places written
--   wiped_own, wiped_zero, wiped_whole                          the same, for rows of which the last are zeroed
--   wiped_filled                                                rows of which the last are filled with no fault
--   wiped_none, wiped_all                                       no row zeroed, and all
--   taken_none, taken_one                                       rows taken one after another
pub mod RowsLaws
