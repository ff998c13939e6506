-- `obj_number::decimal::quotient` meets its contract.
use mathlib.Core.Path.{ap, ◌∙◌}
use Prim.Native.Nat.{ℕ}
use native.Mathlib.Nat.{le_trans, le_of_lt, le_of_eq}
use lib.IntN.{pos}
use lib.Ieee.{binary64, div, of_int}
use Rattle.obj_number.proofs.DecimalLaws.{power_le, decimal_quotient, cast_exact}
use Rattle.obj_number.proofs.decimal.quotient.Goals as goal

pub int_to_float-result : goal.int_to_float-result
int_to_float-result c = cast_exact c.args.n (le_of_lt c.requires.fact_1)

pub int_to_float-result-2 : goal.int_to_float-result-2
int_to_float-result-2 c = cast_exact _ (le_trans (le_of_eq c.power_of_ten-ten.ensures) (power_le c.args.p c.requires.fact_2))

pub returns : goal.returns
returns c = ap (λ (k : ℕ). div binary64 (of_int binary64 (pos c.args.n)) (of_int binary64 (pos k))) c.power_of_ten-ten.ensures ∙ decimal_quotient c.args.n c.args.p c.requires.fact_1 c.requires.fact_2
