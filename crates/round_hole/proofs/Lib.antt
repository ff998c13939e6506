-- The laws of directions. An index of those that other crates cite, file by file.
-- WholeLaws: whole numbers in 64 bits
--   size_mul, size_add, size_sub        the size of a product, a sum and a difference
--   in_range_lem, read-back                 numbers that an i64 holds
-- DirectionLaws
--   directions_short, directions_one    offsets shorter than 1e-6 give no direction, others one
--   direction_packable      u and v of a direction lie from -2^20 to 2^20, for offsets of at most 2^20 and not shorter than 1e-6
-- CellLaws
--   unpack_pack             a packed direction is the one that was packed
--   unpack_near             any cell's direction is below 2^22
-- RoundLaws
--   directions_none, directions_more    the directions of no cell, and of one more
--   directions_packed       one more, after a direction was packed into the next cell
--   directions_same         the directions of the first n cells depend on these cells alone
--   some_found, some_none   some direction of the cells follows a, found at any place, or at none
--   followed_near, followed_all         the same, of a search near by that found one, and of one over all cells
-- MeaningLaws
--   round_says, says_round  `goes_round_of` is "for every direction a some direction b", and that there is one
--   round-same              the order of the directions, and how often each stands there, change nothing
pub mod WholeLaws
pub mod DirectionLaws
pub mod CellLaws
pub mod RoundLaws
pub mod MeaningLaws
