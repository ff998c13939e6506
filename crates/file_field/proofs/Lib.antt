-- The laws on the tests of single fields.
-- FieldLaws
--   in_range_from, in_range_to          lo <= x and x <= hi
--   in_range_within, in_range_nonneg    so the size is at most that of the ends, and not negative where lo is not
--   all_within_lem                          each component's size
--   two_within, ten_thousand_within     the ends of the ranges
--   directed                            components within 2, squared length from 0.25 to 4
--   point_within                        components within 10,000
pub mod FieldLaws
