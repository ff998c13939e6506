-- Coordinates that are no NaN.
use mathlib.Core.Path.{◌≡◌, sym, ap, ◌∙◌, subst}
use mathlib.Core.Bool.{Bool, not}
use mathlib.Core.List.{List}
use Prim.Native.Nat.{ℕ}
use lib.Dec.{T}
use lib.Ieee.{binary64, of_bits, is_nan, nan_bits}
use lib.Ieee.Bits.{nan_bits_is}
use Rattle.num_float.specs.Within.{Within}
use Rattle.num_real.proofs.BitsLaws.{finite→no_nan}
use Rattle.file_job.specs.file_field.specs.Field.{u64_at, f64_at}

-- the pattern of a bounded number is no NaN's
pub no_nan_bits : (s : List ℕ) (at b c : ℕ) → b ≡ u64_at s at → Within (f64_at s at) c → T (not (nan_bits binary64 b))
unfolding f64_at
no_nan_bits s at b c e w =
    subst (λ (t : Bool). T (not t)) (sym (nan_bits_is binary64 b ∙ ap (λ (k : ℕ). is_nan (of_bits binary64 k)) e)) (finite→no_nan (f64_at s at) w.is_finite)
