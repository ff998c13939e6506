-- Digits as a whole number: the cap, and how large a number of so many digits is.
use Rattle.std.proofs.Common.{Some, None}
use mathlib.Core.Path.{◌≡◌, refl, sym, ap, ◌∙◌}
use mathlib.Core.Bool.{Bool, true, false, ◌&&◌, cond}
use mathlib.Core.List.{List, [], ◌∷◌, ◌++◌}
use Prim.Native.Nat.{ℕ, suc, ◌+◌, ◌-◌, ◌*◌, ◌^◌, ◌≤◌, ◌<◌}
use native.Mathlib.Nat.{mul-one, mul_assoc, mul_comm, pow-suc, le_trans, le_of_eq, mul-le-mul_right}
use native.Mathlib.Numerals.{add-one}
use native.Mathlib.Omega.{arith}
use lib.Dec.{leb}
use lib.ListN.{length, get_or, drop}
use lib.Seq.{drop-cons}
use borrow.Author.Tests.{leb-true, eq-eqb, ne_eqb}
use Rattle.obj_number.specs.Whole.{is_digit, all_digits, value_from, value_of, is_whole, capped, digits_field, whole_field}

-- ---- a digit
and_left : (a b : Bool) → (a && b) ≡ true → a ≡ true
and_left true b h = refl
and_left false b h = h

and_right : (a b : Bool) → (a && b) ≡ true → b ≡ true
and_right true b h = h
and_right false true h = refl
and_right false false h = h

pub digit_from : (b : ℕ) → is_digit b ≡ true → 48 ≤ b
unfolding is_digit
digit_from b h = leb-true 48 b (and_left (leb 48 b) (leb b 57) h)

pub digit_to : (b : ℕ) → is_digit b ≡ true → b ≤ 57
unfolding is_digit
digit_to b h = leb-true b 57 (and_right (leb 48 b) (leb b 57) h)

-- ---- the cap
pub capped_below : (n : ℕ) → n ≤ 2 ^ 63 → capped n ≡ n
unfolding capped
capped_below n h = omega arith

pub capped_le : (n : ℕ) → capped n ≤ 2 ^ 63
unfolding capped
capped_le n = omega arith

capped_step : (m n d : ℕ) → capped m ≡ capped n → capped (m * 10 + d) ≡ capped (n * 10 + d)
unfolding capped
capped_step m n d h = omega arith

pub capped_twice : (n : ℕ) → capped (capped n) ≡ capped n
unfolding capped
capped_twice n = omega arith

-- numbers that agree up to the cap agree with more digits
pub capped_from : (l : List ℕ) (m n : ℕ) → capped m ≡ capped n → capped (value_from m l) ≡ capped (value_from n l)
unfolding value_from
capped_from [] m n h = h
capped_from (b ∷ l) m n h = capped_from l (m * 10 + (b - 48)) (n * 10 + (b - 48)) (capped_step m n (b - 48) h)

-- ---- the digits that are left
pub field_none : (n : ℕ) → n ≤ 2 ^ 63 → digits_field n [] ≡ Some n
unfolding digits_field all_digits value_from
field_none n h = ap Some (capped_below n h)

field_step : (n b r : ℕ) (l : List ℕ) → is_digit b ≡ true → r ≡ capped (n * 10 + (b - 48)) → digits_field r l ≡ digits_field n (b ∷ l)
unfolding digits_field all_digits value_from
field_step n b r l h e =
    let same : capped (value_from r l) ≡ capped (value_from (n * 10 + (b - 48)) l) = capped_from l r (n * 10 + (b - 48)) (ap capped e ∙ capped_twice (n * 10 + (b - 48))) in
    rw (h, same)

field_stop : (n b : ℕ) (l : List ℕ) → is_digit b ≡ false → digits_field n (b ∷ l) ≡ None
unfolding digits_field all_digits
field_stop n b l h = rw h

pub field_more : (s : List ℕ) (n i r : ℕ) → i < length s → is_digit (get_or s i 0) ≡ true → r ≡ capped (n * 10 + (get_or s i 0 - 48))
    → digits_field r (drop (i + 1) s) ≡ digits_field n (drop i s)
field_more s n i r h d e =
    ap (λ (k : ℕ). digits_field r (drop k s)) (add-one i) ∙ field_step n (get_or s i 0) r (drop (suc i) s) d e ∙ ap (digits_field n) (sym (drop-cons s i 0 h))

pub field_not : (s : List ℕ) (n i : ℕ) → i < length s → is_digit (get_or s i 0) ≡ false → digits_field n (drop i s) ≡ None
field_not s n i h d = ap (digits_field n) (drop-cons s i 0 h) ∙ field_stop n (get_or s i 0) (drop (suc i) s) d

-- ---- what an answer tells
pub record Told (n : ℕ) (l : List ℕ) (r : ℕ) : Type 0 where
  pub digits : all_digits l ≡ true
  pub value : r ≡ capped (value_from n l)

pub field_is : (n : ℕ) (l : List ℕ) (r : ℕ) → digits_field n l ≡ Some r → Told n l r
unfolding digits_field
field_is n l r = go (all_digits l) refl
  where
    go : (t : Bool) → all_digits l ≡ t → cond t (Some (capped (value_from n l))) None ≡ Some r → Told n l r
    go true e h = record { digits = e; value = cc }
    go false e h = absurd (never h)
      where
        never : None ≡ Some r → ⊥
        never k = let z : ◌≡◌ {A = ℕ} 0 1 = cc in omega arith

pub field_is_not : (n : ℕ) (l : List ℕ) → digits_field n l ≡ None → all_digits l ≡ false
unfolding digits_field
field_is_not n l = go (all_digits l)
  where
    go : (t : Bool) → cond t (Some (capped (value_from n l))) None ≡ None → t ≡ false
    go true h = cc
    go false h = refl

-- ---- one list after another
pub digits_append : (k l : List ℕ) → all_digits (k ++ l) ≡ (all_digits k && all_digits l)
unfolding all_digits
digits_append [] l = refl
digits_append (b ∷ k) l = go (is_digit b) (digits_append k l)
  where
    go : (t : Bool) → all_digits (k ++ l) ≡ (all_digits k && all_digits l) → (t && all_digits (k ++ l)) ≡ ((t && all_digits k) && all_digits l)
    go true h = h
    go false h = refl

pub value_append : (n : ℕ) (k l : List ℕ) → value_from n (k ++ l) ≡ value_from (value_from n k) l
unfolding value_from
value_append n [] l = refl
value_append n (b ∷ k) l = value_append (n * 10 + (b - 48)) k l

-- ---- the size of a number
pub value_bound : (l : List ℕ) (n : ℕ) → all_digits l ≡ true → value_from n l < (n + 1) * 10 ^ length l
unfolding value_from all_digits
value_bound [] n h = le_of_eq (sym (add-one n) ∙ sym (mul-one (n + 1)))
value_bound (b ∷ l) n h =
    let d : b ≤ 57 = digit_to b (and_left (is_digit b) (all_digits l) h) in
    let rest = value_bound l (n * 10 + (b - 48)) (and_right (is_digit b) (all_digits l) h) in
    let p = 10 ^ length l in
    let one : n * 10 + (b - 48) + 1 ≤ (n + 1) * 10 = omega arith in
    let all : (n + 1) * 10 * p ≡ (n + 1) * 10 ^ suc (length l) = mul_assoc (n + 1) 10 p ∙ ap (λ (k : ℕ). (n + 1) * k) (mul_comm 10 p ∙ sym (pow-suc 10 (length l))) in
    le_trans rest (le_trans (mul-le-mul_right p one) (le_of_eq all))

-- ---- a field
pub whole_empty : (l : List ℕ) → length l ≡ 0 → whole_field l ≡ None
unfolding whole_field is_whole
whole_empty l h = rw (eq-eqb (length l) 0 h)

pub whole_digits : (l : List ℕ) → (length l ≡ 0 → ⊥) → whole_field l ≡ digits_field 0 l
unfolding whole_field is_whole value_of digits_field
whole_digits l h = rw (ne_eqb (length l) 0 h)
