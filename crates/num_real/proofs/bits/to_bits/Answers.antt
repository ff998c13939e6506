-- `num_real::bits::to_bits` meets its contract: only a NaN differs from itself.
use mathlib.Core.Path.{◌≡◌, refl, sym, ap, ◌∙◌, subst}
use mathlib.Core.Bool.{false, not}
use Prim.Native.Nat.{ℕ}
use lib.Dec.{T}
use lib.Ieee.{Float, nan, inf, fin, binary64, to_bits, is_nan, ne}
use lib.Ieee.Compare.{differs_from_itself}
use Rattle.num_real.proofs.bits.to_bits.Goals as goal

nan_pattern : ◌≡◌ {A = ℕ} 0x7FF8000000000000 (to_bits binary64 nan)
unfolding to_bits
nan_pattern = refl

same_no_nan : (x : Float) → ne x x ≡ false → T (not (is_nan x))
unfolding ne is_nan
same_no_nan nan h = absurd (subst T h tt)
same_no_nan (inf s) h = tt
same_no_nan (fin s m e) h = tt

pub returns-then-x : goal.returns-then-x
returns-then-x c =
    nan_pattern ∙ ap (λ (x : Float). to_bits binary64 x) (sym (differs_from_itself c.args.x (subst T (sym c.if-x.true) tt)))

pub float_to_bits-result : goal.float_to_bits-result
float_to_bits-result c = same_no_nan c.args.x c.if-x.false
