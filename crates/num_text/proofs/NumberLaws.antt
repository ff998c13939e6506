-- Laws of digits, widths and fractions.
use mathlib.Core.Path.{◌≡◌, refl, sym, ap, ◌∙◌, subst}
use mathlib.Core.Bool.{Bool, true, false, cond}
use mathlib.Core.List.{List, [], ◌∷◌, ◌++◌, append-nil}
use Prim.Native.Nat.{ℕ, zero, suc, ◌+◌, ◌-◌, ◌*◌, ◌/◌, ◌%◌, ◌^◌, ◌≤◌, ◌<◌, min}
use native.Mathlib.Nat.{pow-suc, lt_of_le_of_lt, lt_trans, lt_irrefl}
use native.Mathlib.Numerals.{add-one}
use native.Mathlib.Omega.{arith}
use lib.Dec.{ltb, eqb, lit<}
use lib.ListN.{length, take, set, length-append, length-take}
use lib.Seq.{sets, set_comm}
use borrow.Author.Tests.{lt-ltb, le-ltb, ltb-false}
use Rattle.num_text.specs.Number.{positional, decimal_digit, digits, count, width, numeral, after_point, prepend, trim}
use Rattle.num_text.specs.Put.{over, advance, Put}
use Rattle.num_text.proofs.PutLaws.{over_append, put_then, put_taken}

-- ---- digits
pub length_positional : (base : ℕ) (digit : ℕ → ℕ) (k n : ℕ) → length (positional base digit k n) ≡ k
unfolding positional
length_positional base digit zero n = refl
length_positional base digit (suc k) n =
    length-append (positional base digit k (n / base)) (digit (n % base) ∷ []) ∙ ap (λ (j : ℕ). j + 1) (length_positional base digit k (n / base)) ∙ add-one k

pub length_digits : (k n : ℕ) → length (digits k n) ≡ k
length_digits k n = length_positional 10 decimal_digit k n

-- a byte stored past those that follow may be stored after them
sets_set : (d p : List ℕ) (at j c : ℕ) → at + length p ≤ j → sets (set d j c) at p ≡ set (sets d at p) j c
sets_set d [] at j c h = refl
sets_set d (b ∷ p) at j c h =
    ap (λ (l : List ℕ). sets l (suc at) p) (set_comm d j at c b (λ (e : j ≡ at). omega arith)) ∙ sets_set (set d at b) p (suc at) j c (omega arith)

-- the lowest digit stored first, then those above it
pub over_lowest : (d : List ℕ) (at i v : ℕ) → over (set d (at + i) (48 + v % 10)) at (digits i (v / 10)) ≡ over d at (digits (suc i) v)
unfolding over positional
over_lowest d at i v =
    let c = 48 + v % 10 in
    let p = digits i (v / 10) in
    let n : length p ≡ i = length_digits i (v / 10) in
    sets_set d p at (at + i) c (omega arith)
    ∙ ap (λ (j : ℕ). set (sets d at p) (at + j) c) (sym n)
    ∙ sym (over_append d at p (c ∷ []))

-- k digits written where they fit
pub put_digits : (d e : List ℕ) (at k n : ℕ) → length d < 2 ^ 63 → at + k ≤ length d → e ≡ over d at (digits k n) → Put d at (digits k n) e (at + k)
unfolding advance
put_digits d e at k n h r s = record { room = h; slice = s; next = go (length (digits k n)) (length_digits k n) }
  where
    go : (l : ℕ) → l ≡ k → at + k ≡ at + min l (2 ^ 63 - at)
    go l e = omega arith

-- one more digit, below those that are written
pub put_lower : {d e f : List ℕ} {at r t : ℕ} (base : ℕ) (digit : ℕ → ℕ) (k n : ℕ) → Put d at (positional base digit k (n / base)) e r
    → Put e r (digit (n % base) ∷ []) f t → Put d at (positional base digit (suc k) n) f t
unfolding positional
put_lower base digit k n a b = put_then (positional base digit k (n / base)) (digit (n % base) ∷ []) a b

-- ---- widths
pub count_one : (f n : ℕ) → n < 10 → count f (ltb n 10) n ≡ 1
unfolding count
count_one zero n h = refl
count_one (suc f) n h = rw (lt-ltb n 10 h)

pub count_more : (f n : ℕ) → 10 ≤ n → count (suc f) (ltb n 10) n ≡ suc (count f (ltb (n / 10) 10) (n / 10))
unfolding count
count_more f n h = rw (le-ltb n 10 h)

-- a number below 10 ^ j has at most j digits
count_le : (f : ℕ) (b : Bool) (n j : ℕ) → ltb n 10 ≡ b → 0 < j → n < 10 ^ j → count f b n ≤ j
unfolding count
count_le zero b n j e J h = J
count_le (suc f) true n j e J h = J
count_le (suc f) false n zero e J h = absurd (lt_irrefl 0 J)
count_le (suc f) false n (suc zero) e J h = absurd (lt_irrefl 10 (lt_of_le_of_lt (ltb-false n 10 e) h))
count_le (suc f) false n (suc (suc j)) e J h =
    let m : n < 10 ^ suc j * 10 = subst (λ (k : ℕ). n < k) (pow-suc 10 (suc j)) h in
    let rest : count f (ltb (n / 10) 10) (n / 10) ≤ suc j = count_le f (ltb (n / 10) 10) (n / 10) (suc j) refl (omega arith) (tenth n (10 ^ suc j) m) in
    omega arith
  where
    tenth : (n p : ℕ) → n < p * 10 → n / 10 < p
    tenth n p h = omega arith

pub width_le : (n j : ℕ) → 0 < j → n < 10 ^ j → width n ≤ j
unfolding width
width_le n j J h = count_le n (ltb n 10) n j refl J h

pub length_numeral : (n : ℕ) → length (numeral n) ≡ width n
unfolding numeral
length_numeral n = length_digits (width n) n

-- a u64 has at most 20 digits
pub width_u64 : (n : ℕ) → n < 2 ^ 64 → width n ≤ 20
width_u64 n h = width_le n 20 (lit< tt) (lt_trans h (lit< tt))

-- the digits that stand at the start of a slice, read back
pub numeral_taken : {d e : List ℕ} {r : ℕ} (k n : ℕ) → Put d 0 (digits k n) e r → k ≤ length d → k ≡ width n → take k e ≡ numeral n
unfolding numeral
numeral_taken {d} {e} {r} k n h b w =
    let l : length (digits k n) ≡ k = length_digits k n in
    ap (λ (i : ℕ). take i e) (sym l) ∙ put_taken (digits k n) h (omega arith) ∙ ap (λ (i : ℕ). digits i n) w

-- ---- fractions
-- what is left of digits is their front
prepend_front : (d : ℕ) (ds es : List ℕ) → take (length es) ds ≡ es → take (length (prepend d es)) (d ∷ ds) ≡ prepend d es
unfolding prepend
prepend_front d ds [] h = go (eqb d 48)
  where
    go : (b : Bool) → take (length (cond b [] (d ∷ []))) (d ∷ ds) ≡ cond b [] (d ∷ [])
    go true = refl
    go false = refl
prepend_front d ds (e ∷ es) h = ap (λ (l : List ℕ). d ∷ l) h

trim_front : (ds : List ℕ) → take (length (trim ds)) ds ≡ trim ds
unfolding trim
trim_front [] = refl
trim_front (d ∷ ds) = prepend_front d ds (trim ds) (trim_front ds)

pub fraction_front : (ds : List ℕ) → take (length (after_point (trim ds))) (46 ∷ ds) ≡ after_point (trim ds)
unfolding after_point
fraction_front ds = go ds (trim ds) (trim_front ds)
  where
    go : (ds es : List ℕ) → take (length es) ds ≡ es → take (length (after_point es)) (46 ∷ ds) ≡ after_point es
    go ds [] h = refl
    go ds (e ∷ es) h = ap (λ (l : List ℕ). 46 ∷ l) h

pub fraction_le : (ds : List ℕ) → length (after_point (trim ds)) ≤ length (46 ∷ ds)
fraction_le ds =
    let n = length (after_point (trim ds)) in
    omega (arith, ap length (fraction_front ds), length-take n (46 ∷ ds))

-- ---- a whole number of k digits with places after it: none, or some
pub pointed_none : (k w p r : ℕ) → k ≡ width w → p ≡ 0 → digits k w ≡ numeral w ++ after_point (digits p r)
unfolding numeral after_point positional
pointed_none k w p r e h =
    ap (λ (i : ℕ). digits i w) e ∙ sym (append-nil (numeral w)) ∙ ap (λ (i : ℕ). numeral w ++ after_point (digits i r)) (sym h)

after_some : (ds : List ℕ) → 0 < length ds → 46 ∷ ds ≡ after_point ds
unfolding after_point
after_some [] h = absurd (lt_irrefl 0 h)
after_some (d ∷ ds) h = refl

pub pointed_some : (k w p r : ℕ) → k ≡ width w → 0 < p → digits k w ++ (46 ∷ digits p r) ≡ numeral w ++ after_point (digits p r)
unfolding numeral
pointed_some k w p r e h =
    let some : 0 < length (digits p r) = subst (λ (n : ℕ). 0 < n) (sym (length_digits p r)) h in
    ap (λ (i : ℕ). digits i w ++ (46 ∷ digits p r)) e ∙ ap (λ (l : List ℕ). numeral w ++ l) (after_some (digits p r) some)
