-- `solid_pairs::pair_key` meets its contract.
use mathlib.Core.Path.{refl}
use Rattle.list_groups.proofs.KeyLaws.{whole_cast}
use Rattle.solid_pairs.proofs.PairOfLaws.{key_small}
use native.Mathlib.Omega.{arith}
use Rattle.solid_pairs.proofs.pair_key.Goals as goal

pub overflow_mul-result : goal.overflow_mul-result
overflow_mul-result c = omega (arith, key_small _ _ _ c.requires.fact_1 c.requires.fact_2 c.requires.fact_3)

pub overflow_add-result : goal.overflow_add-result
overflow_add-result c = omega (arith, key_small _ _ _ c.requires.fact_1 c.requires.fact_2 c.requires.fact_3)

pub int_to_float-result : goal.int_to_float-result
int_to_float-result c = whole_cast _ (omega (arith, key_small _ _ _ c.requires.fact_1 c.requires.fact_2 c.requires.fact_3))

pub returns : goal.returns
returns c = record { is = refl; small = omega (arith, key_small _ _ _ c.requires.fact_1 c.requires.fact_2 c.requires.fact_3) }
