-- From the check's answer to the numbers that Rust and C are told.
use mathlib.Core.Path.{◌≡◌, refl}
use mathlib.Core.Bool.{cond}
use Prim.Native.Nat.{ℕ}
use Rattle.std.specs.Prelude.{Result, Ok, Err}
use Rattle.refusal.specs.declared.Refusal.{Refusal}
use Rattle.refusal.specs.Numbers as refusal
use Rattle.dfm.specs.dfm_core.specs.Answer.{number_of, length_of, is_accepted}

pub tell_accepted : (r : Result ℕ Refusal) (n old : ℕ) → r ≡ Ok n → (0 ≡ number_of r) × (n ≡ cond (is_accepted r) (length_of r) old)
unfolding number_of length_of is_accepted
tell_accepted r n old e = (rw (e) refl, rw (e) refl)

pub tell_refused : (r : Result ℕ Refusal) (k : Refusal) (old : ℕ) → r ≡ Err k → (refusal.number k ≡ number_of r) × (old ≡ cond (is_accepted r) (length_of r) old)
unfolding number_of length_of is_accepted
tell_refused r k old e = (rw (e) refl, rw (e) refl)
