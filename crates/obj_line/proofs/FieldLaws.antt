-- The field after a place of a line, and what it tells as a number.
use Rattle.std.proofs.Common.{Option, Some, None}
use mathlib.Core.Path.{◌≡◌, refl, sym, ap, ◌∙◌}
use mathlib.Core.Bool.{Bool, true, false, cond}
use mathlib.Core.List.{List, [], ◌∷◌}
use Prim.Native.Nat.{ℕ, ◌+◌, ◌-◌, ◌≤◌, ◌<◌}
use native.Mathlib.Nat.{le_trans, le_of_eq}
use native.Mathlib.Numerals.{add-one}
use native.Mathlib.Omega.{arith}
use lib.ListN.{length, take, drop, get_or, length-drop, drop_of_length-le}
use lib.Seq.{drop-cons, drop-drop, take-nil}
use lib.Ieee.{Float}
use Rattle.obj_number.specs.Cut.{before}
use Rattle.obj_number.specs.Whole.{is_whole, value_of, capped, whole_field}
use Rattle.obj_number.specs.Decimal.{is_decimal, decimal_of, decimal_field}
use Rattle.obj_number.proofs.CutLaws.{take_before, before_length}
use Rattle.obj_line.specs.Split.{split, squeeze}
use Rattle.obj_line.specs.Work.{spaces_of, fields_after, first, others, Next}
use Rattle.obj_line.proofs.SplitLaws.{skip_spaces, spaces_end, spaces_length, field_first}

-- ---- at the end
pub none_left : (line : List ℕ) (at : ℕ) → length line ≤ at → fields_after (drop at line) ≡ []
unfolding fields_after
none_left line at h = ap fields_after (drop_of_length-le line h)

pub next_end : (line : List ℕ) (at : ℕ) → length line ≤ at → Next line at (length line) (length line)
unfolding first others
next_end line at h =
    let end : drop (length line) line ≡ [] = drop_of_length-le line (le_of_eq refl) in
    let n = length line in
    record {
      ordered = le_of_eq refl;
      inside = le_of_eq refl;
      further = λ (k : at < length line). absurd (omega arith);
      field = ap (take (n - n)) end ∙ nothing (n - n) ∙ sym (ap first (none_left line at h));
      rest = none_left line n (le_of_eq refl) ∙ sym (ap others (none_left line at h));
    }
  where
    nothing : (n : ℕ) → ◌≡◌ {A = List ℕ} (take n []) []
    nothing n = take-nil n

-- ---- elsewhere
opened : (c : ℕ) (l : List ℕ) → fields_after (c ∷ l) ≡ squeeze (split 32 l)
unfolding fields_after
opened c l = refl

pub some_left : (line : List ℕ) (at k : ℕ) → at < length line → k ≡ spaces_of (drop (at + 1) line)
    → fields_after (drop at line) ≡ before 32 (drop (at + 1 + k) line) ∷ fields_after (drop (length (before 32 (drop (at + 1 + k) line))) (drop (at + 1 + k) line))
some_left line at k h e =
    let tail = drop (at + 1) line in
    let there : drop (spaces_of tail) tail ≡ drop (at + 1 + k) line = drop-drop (spaces_of tail) (at + 1) line ∙ ap (λ (i : ℕ). drop (at + 1 + i) line) (sym e) in
    ap fields_after (drop-cons line at 0 h ∙ ap (λ (i : ℕ). get_or line at 0 ∷ drop i line) (sym (add-one at)))
    ∙ opened (get_or line at 0) tail
    ∙ skip_spaces tail
    ∙ field_first (drop (spaces_of tail) tail) (spaces_end tail)
    ∙ ap (λ (l : List ℕ). before 32 l ∷ fields_after (drop (length (before 32 l)) l)) there

pub next_is : (line : List ℕ) (at k n : ℕ) → at < length line → k ≡ spaces_of (drop (at + 1) line) → n ≡ length (before 32 (drop (at + 1 + k) line))
    → Next line at (at + 1 + k) (at + 1 + k + n)
unfolding first others
next_is line at k n h e f =
    let from = at + 1 + k in
    let l = drop from line in
    let left = some_left line at k h e in
    let a : k ≤ length line - (at + 1) = le_trans (le_of_eq e) (le_trans (spaces_length (drop (at + 1) line)) (le_of_eq (length-drop (at + 1) line))) in
    let b : n ≤ length line - from = le_trans (le_of_eq f) (le_trans (before_length 32 l) (le_of_eq (length-drop from line))) in
    let width : from + n - from ≡ length (before 32 l) = omega arith in
    record {
      ordered = omega arith;
      inside = omega arith;
      further = λ (g : at < length line). omega arith;
      field = ap (λ (i : ℕ). take i l) width ∙ take_before 32 l ∙ sym (ap first left);
      rest = ap fields_after (sym (drop-drop n from line) ∙ ap (λ (i : ℕ). drop i l) f) ∙ sym (ap others left);
    }

-- both stay inside
pub spaces_inside : (line : List ℕ) (at k : ℕ) → k ≡ spaces_of (drop at line) → k ≤ length line - at
spaces_inside line at k e = le_trans (le_of_eq e) (le_trans (spaces_length (drop at line)) (le_of_eq (length-drop at line)))

pub find_inside : (line : List ℕ) (at n : ℕ) → n ≡ length (before 32 (drop at line)) → n ≤ length line - at
find_inside line at n e = le_trans (le_of_eq e) (le_trans (before_length 32 (drop at line)) (le_of_eq (length-drop at line)))

-- where something is left, there is a field
pub field_left : (line : List ℕ) (at : ℕ) → at < length line → fields_after (drop at line) ≡ first (fields_after (drop at line)) ∷ others (fields_after (drop at line))
unfolding first others
field_left line at h =
    let left = some_left line at (spaces_of (drop (at + 1) line)) h refl in
    left ∙ sym (ap (λ (fs : List (List ℕ)). first fs ∷ others fs) left)

-- ---- a decimal
pub record RealTold (f : List ℕ) (x : Float) : Type 0 where
  pub good : is_decimal f ≡ true
  pub value : x ≡ decimal_of f

pub real_is : (f : List ℕ) (r : Option Float) (x : Float) → r ≡ decimal_field f → r ≡ Some x → RealTold f x
unfolding decimal_field
real_is f r x e h = go (is_decimal f) refl (sym h ∙ e)
  where
    go : (b : Bool) → is_decimal f ≡ b → Some x ≡ cond b (Some (decimal_of f)) None → RealTold f x
    go true d k = record { good = d; value = cc }
    go false d k = let z : ◌≡◌ {A = ℕ} 0 1 = cc in absurd (omega arith)

pub real_not : (f : List ℕ) (r : Option Float) → r ≡ decimal_field f → r ≡ None → is_decimal f ≡ false
unfolding decimal_field
real_not f r e h = go (is_decimal f) (sym h ∙ e)
  where
    go : (b : Bool) → None ≡ cond b (Some (decimal_of f)) None → b ≡ false
    go true k = let z : ◌≡◌ {A = ℕ} 0 1 = cc in absurd (omega arith)
    go false k = refl

-- ---- a whole number
pub record WholeTold (f : List ℕ) (n : ℕ) : Type 0 where
  pub good : is_whole f ≡ true
  pub value : n ≡ capped (value_of f)

pub whole_is : (f : List ℕ) (r : Option ℕ) (n : ℕ) → r ≡ whole_field f → r ≡ Some n → WholeTold f n
unfolding whole_field
whole_is f r n e h = go (is_whole f) refl (sym h ∙ e)
  where
    go : (b : Bool) → is_whole f ≡ b → Some n ≡ cond b (Some (capped (value_of f))) None → WholeTold f n
    go true d k = record { good = d; value = cc }
    go false d k = let z : ◌≡◌ {A = ℕ} 0 1 = cc in absurd (omega arith)

pub whole_not : (f : List ℕ) (r : Option ℕ) → r ≡ whole_field f → r ≡ None → is_whole f ≡ false
unfolding whole_field
whole_not f r e h = go (is_whole f) (sym h ∙ e)
  where
    go : (b : Bool) → None ≡ cond b (Some (capped (value_of f))) None → b ≡ false
    go true k = let z : ◌≡◌ {A = ℕ} 0 1 = cc in absurd (omega arith)
    go false k = refl
