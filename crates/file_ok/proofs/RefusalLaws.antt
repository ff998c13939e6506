-- The number 0 is that of no refusal; refusal 10 after the earlier ones.
use mathlib.Core.Path.{◌≡◌, refl, ap, ◌∙◌}
use mathlib.Core.Bool.{Bool, true, false, cond}
use Prim.Native.Nat.{ℕ}
use native.Mathlib.Omega.{arith}
use lib.Dec.{eqb}
use borrow.Author.Tests.{eq-eqb, ne_eqb, eqb-true, eqb-false}
use Rattle.std.specs.Prelude.{⊤, Result, Ok, Err, IsErrAnd}
use Rattle.refusal.specs.declared.Refusal.{Refusal}
use Rattle.refusal.specs.declared.Refusal.TheVariants.{TooShort, WrongEdition, TooLarge, WrongLength, BadJob, BadVertex, BadPolygon, FlatPolygon, TooManyFaces, TooLittleScratch, TooManyFaults, ReportTooLong, NoDecimal, BadLine, UndefinedVertex, OutputTooShort}
use Rattle.refusal.specs.Numbers as refusal
use Rattle.refusal.specs.Numbers.{too_little_scratch}
use Rattle.file_ok.specs.Verdict.{number, or_too_little}

-- no refusal has the number 0
pub not_none : (r : Refusal) → refusal.number r ≡ 0 → ⊥
not_none TooShort h = omega (arith, h)
not_none WrongEdition h = omega (arith, h)
not_none TooLarge h = omega (arith, h)
not_none WrongLength h = omega (arith, h)
not_none BadJob h = omega (arith, h)
not_none BadVertex h = omega (arith, h)
not_none BadPolygon h = omega (arith, h)
not_none FlatPolygon h = omega (arith, h)
not_none TooManyFaces h = omega (arith, h)
not_none TooLittleScratch h = omega (arith, h)
not_none TooManyFaults h = omega (arith, h)
not_none ReportTooLong h = omega (arith, h)
not_none NoDecimal h = omega (arith, h)
not_none BadLine h = omega (arith, h)
not_none UndefinedVertex h = omega (arith, h)
not_none OutputTooShort h = omega (arith, h)

-- so 0 is that of an answer
pub none_refused : (x : Result ⊤ Refusal) → number x ≡ 0 → x ≡ Ok tt
unfolding number
none_refused (Ok u) h = refl
none_refused (Err r) h = absurd (not_none r h)

-- where none is told there is an answer
pub answered : (x : Result ⊤ Refusal) → ((r : Refusal) → x ≡ Err r → ⊥) → x ≡ Ok tt
answered (Ok u) h = refl
answered (Err r) h = absurd (h r refl)

-- `?` passes a refusal up as it is
pub passed_up : {A : Type 0} (x : Result A Refusal) (r : Refusal) → IsErrAnd x (λ e. e ≡ r) → x ≡ Err r
passed_up (Ok a) r h = absurd h
passed_up (Err e) r h = ap (λ (k : Refusal). Err k) h

-- an earlier refusal stands
pub earlier_first : (earlier : ℕ) (little : Bool) → (earlier ≡ 0 → ⊥) → earlier ≡ or_too_little earlier little
unfolding or_too_little
earlier_first earlier little other = rw (ne_eqb earlier 0 other)

-- the same of the number r that the code has of it
pub earlier_is : (r earlier : ℕ) (little : Bool) → r ≡ earlier → (r ≡ 0 → ⊥) → r ≡ or_too_little earlier little
earlier_is r earlier little e other = earlier_first r little other ∙ ap (λ (n : ℕ). or_too_little n little) e

-- without one, the cells decide
pub earlier_none : (earlier : ℕ) (little b : Bool) → earlier ≡ 0 → little ≡ b → cond b too_little_scratch 0 ≡ or_too_little earlier little
unfolding or_too_little
earlier_none earlier little b e t = rw (eq-eqb earlier 0 e, t)

none_earlier : (b little : Bool) (n : ℕ) → eqb n 0 ≡ b → cond b (cond little too_little_scratch 0) n ≡ 0 → n ≡ 0
none_earlier true little n t e = eqb-true n 0 t
none_earlier false little n t e = absurd (eqb-false n 0 t e)

none_little : (b little : Bool) (n : ℕ) → eqb n 0 ≡ b → cond b (cond little too_little_scratch 0) n ≡ 0 → little ≡ false
none_little true true n t e = absurd (omega (arith, e))
none_little true false n t e = refl
none_little false little n t e = absurd (eqb-false n 0 t e)

-- an answer of 0: no earlier refusal, and enough cells
pub passed : (earlier : ℕ) (little : Bool) → or_too_little earlier little ≡ 0 → (earlier ≡ 0) × (little ≡ false)
unfolding or_too_little
passed earlier little e = (none_earlier _ little earlier refl e, none_little _ little earlier refl e)
