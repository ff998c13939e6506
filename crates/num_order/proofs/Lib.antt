-- The laws on the order of f64 under addition and multiplication. An index of those that other crates cite, file by file; x <= y is `le x y`.
-- Signed: fractions with a sign
--   by_lt, or-cases, clash  two natural numbers by cases; one of two tests; a test that both holds and fails
--   round_le                rounding keeps their order
-- Sums
--   least, most             no number is below minus infinity, none above infinity
--   add_le, sub_le          x <= y gives x + o <= y + o and x - o <= y - o, wherever no NaN arises
--   add-comm                x + y is y + x
--   add_number, sub-number  a finite operand makes no NaN
--   sub_right               x - o is a NaN where o is
-- Products
--   mul_le                  x <= y gives x * i <= y * i, or the other way round where i has a minus sign, wherever no NaN arises
--   mul_number              x * i is a NaN where x is
--   nonzero_up, nonzero_down                            which factors are not zero, and their signs
--   edge_before, edge_after a product is an infinity where that of a greater (lesser) x is a NaN, zero times infinity
pub mod Signed
pub mod Sums
pub mod Products
