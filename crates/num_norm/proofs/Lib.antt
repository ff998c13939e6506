-- The laws on square roots and lengths. An index of those that other crates cite, file by file.
-- RootOrder
--   root_nonneg             the root of a number that is not negative is not negative
--   root_mono               0 <= x <= y gives root x <= root y
--   root_within             the root of a number of at most b * b is at most b
-- RootUnits
--   root_finite             the root of a finite f64 that is not negative is finite
--   smallest_root_le        the root of an f64 above zero is at least 2 ^ -537
-- LeastRoot: operands are f64 that are not below zero, NaN allowed
--   lesser_root, greater_root       the lesser (greater) of two roots is the root of the lesser (greater)
--   least_root, greatest_root       so for a list; from infinity on, least_root_infinity, and from 0.0 on, greatest_root_zero
-- Squares
--   squared_operand         a squared length is an operand, whatever the components are
--   squared_of              a finite squared length is no smaller than the square of each component
-- Length
--   squared_nonneg, length_of_lem       finite and not negative
--   squared_within, length_within   bounds, for components of at most 2 ^ k
--   lesser_length, greater_length   one step of a running minimum (maximum) of lengths, kept as a squared length
--   least_length, greatest_length   the least (greatest) of lengths is the root of the least (greatest) squared length
-- RootBound
--   le_twice_root, le_root  a number against the root of what is no smaller than its rounded square
-- Component
--   over_root_1, over_root_2        c / root s, for any such s
--   components_1            a component over the length is at most 1, for a length of at least 2 ^ -484; components_tested: from a test of the length
--   components_2            at most 2, for any length above zero
-- Normalized
--   normalized_is           from a length of 1e-300 on, the quotient
--   normalized_1, normalized_2      components of at most 1, for a length of at least 2 ^ -484, and of at most 2 for any
pub mod RootOrder
pub mod RootUnits
pub mod LeastRoot
pub mod Squares
pub mod Length
pub mod RootBound
pub mod Component
pub mod Normalized
