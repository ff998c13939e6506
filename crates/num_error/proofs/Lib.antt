-- The laws on exact values of f64 and on the error of rounded results, in whole numbers. An index of those that other crates cite, file by file; `exact`
-- is a whole number, and laws work on it as a difference p - m of natural ones (`Is`).
-- Whole
--   is_size, is_add, is_sub, is-mul, is_scaled     sizes, sums, differences and products of such differences
--   exact_is, exact_size, exact_value              a float's exact value: its two parts, its size; it is the float's value, times 2^1074
-- Terms: rounded results beside the exact ones
--   close_wider, close-other, close_scaled         two differences that are close
--   both_parts                                     the two parts of a float, and its units
--   mul_close, add_close, sub_close                one operation on numbers of bounded size
--   add_closer                                     a sum, by the size of the result
-- Quotient: div_close       x / y times the exact denominator, and the exact numerator, where x and y are off themselves
pub mod Whole
pub mod Terms
pub mod Quotient
