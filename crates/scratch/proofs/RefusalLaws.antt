-- The refusal: what each return of the code comes to, its number, and what 0 says.
use mathlib.Core.Path.{◌≡◌, refl}
use mathlib.Core.Bool.{Bool, true, false, ◌||◌, cond}
use mathlib.Core.List.{List}
use Prim.Native.Nat.{ℕ, ◌≤◌}
use lib.Dec.{ltb}
use borrow.Author.Tests.{ltb-false, ne_eqb}
use Rattle.num_float.proofs.Tests.{or_false_left, or_false_right}
use Rattle.std.specs.Prelude.{⊤, Result, Ok, Err}
use Rattle.std.specs.Result.{result_and}
use Rattle.refusal.specs.declared.Refusal.{Refusal}
use Rattle.refusal.specs.declared.Refusal.TheVariants.{TooLittleScratch}
use Rattle.refusal.specs.Numbers as refusal
use Rattle.file_ok.specs.Verdict.{number, or_too_little}
use Rattle.file_ok.proofs.RefusalLaws.{not_none, none_refused}
use Rattle.solid_faces.specs.Faces.{body_verdict, Checked}
use Rattle.scratch.specs.declared.regions.Regions.{Regions}
use Rattle.scratch.specs.Standing.{Placed}
use Rattle.scratch.specs.Refusal.{too_little, body_result_of, body_refusal_of}

pub refusal_file : (s : List ℕ) (words reals : ℕ) (r : Refusal) → body_verdict s ≡ Err r → Err r ≡ body_result_of s words reals
unfolding body_result_of
refusal_file s words reals r e = rw e

pub refusal_cells : (s : List ℕ) (at : Regions) (words reals : ℕ) (b : Bool) → Placed s at → (ltb words at.words || ltb reals at.reals) ≡ b →
    cond b (Err TooLittleScratch) (Ok tt) ≡ body_result_of s words reals
unfolding body_result_of too_little Checked
refusal_cells s at words reals b h t = rw (h.checked, ← h.polygons, ← h.vertices, ← h.laid.words, ← h.laid.reals, t)

-- ---- its number
pub refused_number : (s : List ℕ) (words reals : ℕ) (r : Refusal) → body_result_of s words reals ≡ Err r → refusal.number r ≡ body_refusal_of s words reals
unfolding body_refusal_of number
refused_number s words reals r e = rw e

pub put_number : (s : List ℕ) (words reals : ℕ) → body_result_of s words reals ≡ Ok tt → body_refusal_of s words reals ≡ 0
unfolding body_refusal_of number
put_number s words reals e = rw e

pub number_put : (s : List ℕ) (words reals : ℕ) → body_refusal_of s words reals ≡ 0 → body_result_of s words reals ≡ Ok tt
unfolding body_refusal_of
number_put s words reals z = none_refused (body_result_of s words reals) z

-- refusals 1 to 9 by the file, then 10, by their numbers
pub refusal_numbers : (s : List ℕ) (words reals : ℕ) → body_refusal_of s words reals ≡ or_too_little (number (body_verdict s)) (too_little s words reals)
unfolding body_refusal_of body_result_of number or_too_little
refusal_numbers s words reals = go (body_verdict s) (too_little s words reals)
  where
    go : (v : Result ⊤ Refusal) (little : Bool) → number (result_and {U = ⊤} v (cond little (Err TooLittleScratch) (Ok tt))) ≡ or_too_little (number v) little
    go (Ok u) true = refl
    go (Ok u) false = refl
    go (Err r) little = rw (ne_eqb (refusal.number r) 0 (not_none r))

-- ---- what 0 says: the file is accepted, and there are cells enough
passed : (v : Result ⊤ Refusal) (little : Bool) → result_and {U = ⊤} v (cond little (Err TooLittleScratch) (Ok tt)) ≡ Ok tt → (v ≡ Ok tt) × (little ≡ false)
passed (Ok u) true e = (cc)
passed (Ok u) false e = (refl, refl)
passed (Err r) little e = (cc)

both : (s : List ℕ) (words reals : ℕ) → body_refusal_of s words reals ≡ 0 → (body_verdict s ≡ Ok tt) × (too_little s words reals ≡ false)
unfolding body_result_of
both s words reals z = passed (body_verdict s) (too_little s words reals) (number_put s words reals z)

pub put_checked : (s : List ℕ) (words reals : ℕ) → body_refusal_of s words reals ≡ 0 → Checked s
unfolding Checked
put_checked s words reals z = (both s words reals z).0

enough : (m n words reals : ℕ) → (ltb words m || ltb reals n) ≡ false → (m ≤ words) × (n ≤ reals)
enough m n words reals h = (
  ltb-false _ _ (or_false_left (ltb words m) (ltb reals n) h),
  ltb-false _ _ (or_false_right (ltb words m) (ltb reals n) h),
)

pub put_room : (s : List ℕ) (at : Regions) (words reals : ℕ) → body_refusal_of s words reals ≡ 0 → Placed s at → (at.words ≤ words) × (at.reals ≤ reals)
unfolding too_little
put_room s at words reals z h =
    enough at.words at.reals words reals (rw (h.laid.words, h.laid.reals, h.polygons, h.vertices) (both s words reals z).1)
