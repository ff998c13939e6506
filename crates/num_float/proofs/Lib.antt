-- The laws on f64. An index of those that other crates cite, file by file; x < y is `lt x y`, x <= y is `le x y`, x == y is `eq x y`.
-- Tests: a fact `b ≡ true` of code's test, and lib.Ieee's T b
--   holds, fails            from `b ≡ true` to T b, from `b ≡ false` to T (not b); lib.Ieee.Bits.is-true and is-false go back
--   refuted, contrary       a test that cannot hold fails; none does both
--   and_true, and-left, and-right, and_false_left, and_false_right, or_false_left, or_false_right   two tests together
--   same-test, cond-has     two tests that imply each other are equal; what both choices have, the chosen one has
--   lt_or_ge                two natural numbers, one way or the other
-- Line: floats that are no NaN as natural numbers
--   Agree x y i j           x and y are ordered as i and j; lt→<, <→lt, le→≤, ≤→le, .. read it
--   three                   any three floats as three numbers, for omega
-- Order: the laws of < <= ==
--   lt_numbers, ..          a comparison that holds has no NaN
--   lt-trans, le-trans, lt_le_trans, le-lt-trans, eq_lt_trans, lt_eq_trans
--   lt-irrefl, le_refl_number, lt_asym, eq_sym, le-antisym
--   lt_le, le-not-lt        from one comparison to another; without NaN: not_lt_le, not_le_lt, not_le_le, eq_of_neither, trichotomy
--   lesser_mono, greater_mono   the lesser and the greater of two grow with both
-- NonNegative: 0.0 <= x
--   nonneg_plus, nonneg_zero, plus_nonneg, nonneg_above   which floats are not negative
--   not-negative            not x < 0.0 is a NaN or not negative; nonneg_not_lt goes back
--   as_fractions            finite floats that are not negative are ordered as the fractions num / den
--   zero_least, infinity_greatest, above_num, num_above
-- Rounding: a fraction a / b rounded to f64
--   value_cross, values_le, le_values   a float that equals a fraction
--   round_within            at most C in size where a / b is, for a held C
--   finite_between          what lies between two finite floats is finite
--   finite_lt               a fraction of 2 ^ 1024 or more overflows
--   grid_error              | rounded - a / b | ≤ 2 ^ -53 * a / b + 2 ^ -1075
-- Within: bounds on the size
--   held-small, held_pow    which whole numbers an f64 holds
--   wider, wider_beyond     a weaker bound
--   add_within, sub-within, mul_within, div_within, ratio_within, neg_within
--   cond_within, lesser_within, greater_within   choices
--   whole_within, whole_beyond   a count, `n as f64`
--   tested_within           from lo <= x and x <= hi
--   tested_beyond           from c <= x
--   within_lt, within_lt_2_60   x < 2 ^ k, and the test of a decimal's writer
-- Sign: results that are not negative
--   add_nonneg, sub_nonneg, mul_nonneg, square_nonneg, div_nonneg, whole_nonneg
--   cond_nonneg, greater_nonneg_left, greater_nonneg_right
-- Total: a running sum
--   total_within            of n terms is at most n times their bound
--   total_nonneg            of terms that are not negative is not negative
-- Units: f64 as whole numbers of 2 ^ -1074
--   units_are, units-under, units_multiple, units_unique   what `units` is
--   units_le, cross_of_units, bounded_units, units_within  sizes as fractions, and in units
--   round_sign, round_units                                the result of rounding
-- Rank: ranked              two f64 that are no NaN are ordered as their ranks
-- Error: the error of one operation
--   round_error, mul_error, div_error, add_error           at most 2 ^ -53 of the exact result, and half a unit
-- Growth: add_grows_left, add_grows_right                  a sum is no smaller than its terms, which are not negative
pub mod Tests
pub mod Line
pub mod Order
pub mod NonNegative
pub mod Rounding
pub mod Within
pub mod Sign
pub mod Total
pub mod Units
pub mod Rank
pub mod Error
pub mod Growth
