-- From the answer of the conversion of OBJ text to the numbers that Rust and C are told.
use Rattle.std.proofs.Common.{Result, Ok, Err, is_ok}
use Rattle.std.specs.Bool.{⊤}
use Rattle.std.specs.Result.{result_and}
use mathlib.Core.Path.{◌≡◌, refl, sym, ap}
use mathlib.Core.List.{List}
use mathlib.Core.Bool.{cond}
use Prim.Native.Nat.{ℕ}
use lib.ListN.{length}
use Rattle.refusal.specs.declared.Refusal.{Refusal}
use Rattle.refusal.specs.Numbers.{number}
use Rattle.obj_part.specs.File.{part_file, obj_refusal}
use Rattle.obj.specs.Converts.{number_of, accepts, Converts}
use Rattle.exports.specs.Obj.{Returned}

module _ (text job : List ℕ) {before after : List ℕ} {r : Result ℕ Refusal} (old : ℕ) (w : Converts text job before after r) where
  pub told_file : {n : ℕ} → r ≡ Ok n → Returned text job before after old n 0
  unfolding accepts number_of
  told_file {n} e =
      let both = go (obj_refusal text (length job) (length before)) (length (part_file text job)) w.answer in record { answer = r; converts = w; refusal = both.0; written = both.1 }
    where
      go : (q : Result ⊤ Refusal) (m : ℕ) → r ≡ result_and q (Ok m) → (0 ≡ number_of q) × (n ≡ cond (is_ok q) m old)
      go (Ok x) m h = (refl, cc)
      go (Err d) m h = absurd cc

  pub told_none : {d : Refusal} → r ≡ Err d → Returned text job before after old old (number d)
  unfolding accepts number_of
  told_none {d} e =
      let both = go (obj_refusal text (length job) (length before)) (length (part_file text job)) w.answer in record { answer = r; converts = w; refusal = both.0; written = both.1 }
    where
      go : (q : Result ⊤ Refusal) (m : ℕ) → r ≡ result_and q (Ok m) → (number d ≡ number_of q) × (old ≡ cond (is_ok q) m old)
      go (Ok x) m h = absurd cc
      go (Err k) m h = let same : d ≡ k = cc in (ap number same, refl)
