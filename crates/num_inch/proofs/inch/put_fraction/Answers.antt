-- `num_inch::inch::put_fraction` meets its contract: one writer after the other.
use Prim.Native.Nat.{ℕ, ◌/◌, ◌<◌}
use native.Mathlib.Nat.{div-le_self}
use native.Mathlib.Omega.{arith}
use lib.Count.{count_trailing_zeros}
use Rattle.num_inch.proofs.FractionLaws.{halvings_lt, fraction_is}
use Rattle.num_text.proofs.TextLaws.{adds_then, adds_same}
use Rattle.num_inch.proofs.inch.put_fraction.Goals as goal

below : (n d : ℕ) → n < 100 → n / d < 100
below n d h = omega (arith, div-le_self n d)

pub overflow_cast-halvings : goal.overflow_cast-halvings
overflow_cast-halvings c =
    let few : count_trailing_zeros 64 c.args.k < 64 = halvings_lt c.args.k c.requires.positive c.requires.below in omega (arith, few)

pub overflow_shr-k : goal.overflow_shr-k
overflow_shr-k c =
    let few : count_trailing_zeros 64 c.args.k < 64 = halvings_lt c.args.k c.requires.positive c.requires.below in omega (arith, few)

pub put_small-requires-2 : goal.put_small-requires-2
put_small-requires-2 c = below _ _ (omega (arith, c.requires.below))

pub overflow_cast-halvings-2 : goal.overflow_cast-halvings-2
overflow_cast-halvings-2 c =
    let few : count_trailing_zeros 64 c.args.k < 64 = halvings_lt c.args.k c.requires.positive c.requires.below in omega (arith, few)

pub overflow_shr-halvings : goal.overflow_shr-halvings
overflow_shr-halvings c =
    let few : count_trailing_zeros 64 c.args.k < 64 = halvings_lt c.args.k c.requires.positive c.requires.below in omega (arith, few)

pub returns : goal.returns
returns c =
    adds_same _ _ (fraction_is c.args.k c.requires.positive c.requires.below) (adds_then _ _ (adds_then _ _ c.put_small.ensures c.put_byte.ensures) c.put_small-2.ensures)
