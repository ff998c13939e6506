-- Refusal 13 is never met by a number that is finite, not negative and below 2 ^ 60: the law for callers, in the words of crate num_float.
use mathlib.Core.Path.{◌≡◌}
use mathlib.Core.Bool.{true}
use mathlib.Core.List.{List, ◌++◌}
use Prim.Native.Nat.{ℕ, ◌≤◌, ◌<◌, ◌^◌}
use lib.Dec.{T}
use lib.ListN.{length, drop}
use lib.Ieee.{Float, le, lt}
use Rattle.num_float.specs.Sign.{NonNeg}
use Rattle.num_float.specs.Within.{Within}
use Rattle.num_float.proofs.Tests.{holds}
use Rattle.num_float.proofs.Within.{within_lt_2_60}
use Rattle.std.specs.Prelude.{Result, Ok}
use Rattle.refusal.specs.declared.Refusal.{Refusal}
use Rattle.num_text.specs.Decimal.{text, zero, limit, accepted, refusal, Writes, decimal_text}
use Rattle.num_text.proofs.DecimalLaws.{from_zero, to_limit, accepts, accepted_text, never_refused}

module _ (x : Float) (b p : ℕ) (nonneg : NonNeg x) (within : Within x b) (below : b < 2 ^ 60) (places : p ≤ 3) where
  from_0 : T (le zero x)
  from_0 = holds (from_zero x true nonneg)

  to_2_60 : T (lt x limit)
  to_2_60 = holds (to_limit x true (within_lt_2_60 x b within below))

  pub accepted_at : accepted x p ≡ true
  accepted_at = accepts x p from_0 to_2_60 places

  -- at a position its text is written
  pub written_at : decimal_text x p ≡ text x p
  written_at = accepted_text x p accepted_at

  -- and so it is by the decimal writer, into any buffer of 24 bytes or more
  pub written_first : {before after : List ℕ} {r : Result ℕ Refusal} → 24 ≤ length before → Writes x p before after r
      → (r ≡ Ok (length (text x p))) × (refusal r ≡ 0) × (after ≡ text x p ++ drop (length (text x p)) before)
  written_first room w = never_refused x p from_0 to_2_60 places room w
