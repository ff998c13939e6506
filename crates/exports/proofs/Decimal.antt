-- From the decimal writer's answer to the numbers that Rust and C are told.
use mathlib.Core.Path.{◌≡◌, refl, ap}
use mathlib.Core.List.{List}
use mathlib.Core.Bool.{Bool, true, false, cond}
use Prim.Native.Nat.{ℕ}
use native.Mathlib.Omega.{arith}
use lib.ListN.{length}
use lib.Ieee.{Float}
use Rattle.std.specs.Prelude.{Result, Ok, Err}
use Rattle.refusal.specs.declared.Refusal.{Refusal}
use Rattle.refusal.specs.declared.Refusal.TheVariants.{NoDecimal}
use Rattle.refusal.specs.Numbers.{number, no_decimal}
use Rattle.num_text.specs.Decimal.{text, taken, Writes}
use Rattle.exports.specs.Decimal.{Returns}

module _ (x : Float) (p : ℕ) {before after : List ℕ} {r : Result ℕ Refusal} (old : ℕ) (w : Writes x p before after r) where
  pub told_written : {n : ℕ} → r ≡ Ok n → Returns x p before after old n 0
  told_written {n} e =
      let both = go (taken x p (length before)) (length (text x p)) w.answer in record { refusal = both.0; written = both.1; buffer = w.buffer }
    where
      go : (t : Bool) (k : ℕ) → r ≡ cond t (Ok k) (Err NoDecimal) → (◌≡◌ {A = ℕ} 0 (cond t 0 no_decimal)) × (n ≡ cond t k old)
      go true k h = (refl, cc)
      go false k h = cc

  pub told_refused : {f : Refusal} → r ≡ Err f → Returns x p before after old old (number f)
  told_refused {f} e =
      let both = go (taken x p (length before)) (length (text x p)) w.answer in record { refusal = both.0; written = both.1; buffer = w.buffer }
    where
      go : (t : Bool) (k : ℕ) → r ≡ cond t (Ok k) (Err NoDecimal) → (number f ≡ cond t 0 no_decimal) × (old ≡ cond t k old)
      go true k h = cc
      go false k h = let is : f ≡ NoDecimal = cc in (ap number is, refl)
