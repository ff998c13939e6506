-- What a call of the decimal writer from Rust or C leaves. Definitions only.
use Rattle.std.specs.Prelude.{◌≡◌, List, ◌++◌, cond, ℕ, length, drop, Float}
use Rattle.refusal.specs.Numbers.{no_decimal}
use Rattle.num_text.specs.Decimal.{text, taken}

-- The refusal's number, 0 for none; the length that was lent as a number, and the buffer: set where the call is taken, and else unchanged.
pub record Returns (x : Float) (p : ℕ) (before after : List ℕ) (old new r : ℕ) : Type 0 where
  pub refusal : r ≡ cond (taken x p (length before)) 0 no_decimal
  pub written : new ≡ cond (taken x p (length before)) (length (text x p)) old
  pub buffer : after ≡ cond (taken x p (length before)) (text x p ++ drop (length (text x p)) before) before
