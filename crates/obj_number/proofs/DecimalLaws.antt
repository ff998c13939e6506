-- A decimal of at most 15 digits is the quotient of two whole numbers that f64 holds, so that one division gives its nearest f64.
use Rattle.std.proofs.Common.{Option, Some, None}
use mathlib.Core.Path.{◌≡◌, refl, sym, ap, ◌∙◌, subst}
use mathlib.Core.Bool.{Bool, true, false, ◌&&◌, cond}
use mathlib.Core.List.{List, [], ◌∷◌}
use Prim.Native.Nat.{ℕ, zero, suc, zero-le, ◌+◌, ◌-◌, ◌*◌, ◌^◌, ◌≤◌, ◌<◌, min}
use native.Mathlib.Nat.{le_trans, le_of_eq, le_of_lt, lt_of_lt_of_le, lt_of_le_of_lt, lt_irrefl, mul-one, one-mul, zero-mul, mul_assoc, mul_comm, mul_left_comm, mul-pos, mul-lt-mul_of_pos_right, pow-le-pow_right}
use native.Mathlib.Omega.{arith}
use lib.IntN.{pos}
use lib.Dec.{T, leb, eqb, ltb, le→leb, lit<, lit≤}
use lib.Pow.{pow_pos, pow-add}
use lib.ListN.{length, take, drop, get_or, length-append, length-drop}
use lib.Ieee.{Float, nan, inf, fin, Format, binary64, up, down, unlike, low, prec, emax, odd, units, round, neg, div, of_int, in_float}
use lib.Ieee.Exact.{HasValue, round_exact}
use lib.Ieee.Fits.{down_pos}
use lib.Ieee.Scale.{round_same}
use borrow.Author.Tests.{eq-eqb, ne_eqb, le-leb, lt-leb}
use Rattle.obj_number.specs.Cut.{before, after}
use Rattle.obj_number.specs.Whole.{all_digits, value_from, value_of, capped, digits_field}
use Rattle.obj_number.specs.Decimal.{is_sign, is_minus, unsigned, digits_of, is_unsigned, is_decimal, nearest_of, decimal_of, unsigned_field, decimal_field}
use Rattle.obj_number.proofs.CutLaws.{take_before, drop_after}
use Rattle.obj_number.proofs.WholeLaws.{Told, field_is, field_is_not, digits_append, value_append, value_bound, capped_from, capped_twice, capped_below, capped_le}

-- ---- a whole number below 2 ^ 53 is an f64
whole_value : (n : ℕ) → n < 2 ^ 53 → HasValue (of_int binary64 (pos n)) false n 1
unfolding of_int
whole_value n h =
    let p = pow_pos 1074 in
    round_exact binary64 false n 1 n 1074 (lit< tt) h
    (lt_of_lt_of_le (mul-lt-mul_of_pos_right h p) (le_trans (le_of_eq (sym (pow-add 2 53 1074))) (lit≤ tt)))
    (sym (mul-one (n * 2 ^ 1074)))

-- ---- the quotient of two floats, by their values
div_values : (x y : Float) (n d : ℕ) → 0 < d → HasValue x false n 1 → HasValue y false d 1 → div binary64 x y ≡ round binary64 false n d
unfolding div
div_values nan y n d D v w = absurd v
div_values (inf s) y n d D v w = absurd v
div_values (fin s m e) nan n d D v w = absurd w
div_values (fin s m e) (inf t) n d D v w = absurd w
div_values (fin s m e) (fin t k g) n d D v w =
    let a : m * up e ≡ n * down e = sym (mul-one (m * up e)) ∙ v.1 in
    let b : k * up g ≡ d * down g = sym (mul-one (k * up g)) ∙ w.1 in
    let B : 0 < k * up g = subst (λ (z : ℕ). 0 < z) (sym b) (mul-pos D (down_pos g)) in
    let some : k ≡ 0 → ⊥ = λ (z : k ≡ 0). lt_irrefl 0 (subst (λ (i : ℕ). 0 < i) (ap (λ (i : ℕ). i * up g) z ∙ zero-mul (up g)) B) in
    ap (λ (c : Bool). cond c (cond (eqb m 0) nan (inf (unlike s t))) (round binary64 (unlike s t) (m * up e * down g) (k * up g * down e))) (ne_eqb k 0 some)
    ∙ ap (λ (c : Bool). round binary64 (unlike c t) (m * up e * down g) (k * up g * down e)) v.0
    ∙ ap (λ (c : Bool). round binary64 (unlike false c) (m * up e * down g) (k * up g * down e)) w.0
    ∙ round_same binary64 false (m * up e * down g) (k * up g * down e) n d (mul-pos B (down_pos e)) D
    (ap (λ (i : ℕ). i * down g * d) a ∙ cross n (down e) (down g) d ∙ ap (λ (i : ℕ). n * (i * down e)) (sym b))
  where
    cross : (n p q d : ℕ) → n * p * q * d ≡ n * (d * q * p)
    cross n p q d = simp (mul_assoc, mul_comm, mul_left_comm)

-- one division rounds right
pub div_whole : (n d : ℕ) → n < 2 ^ 53 → 0 < d → d < 2 ^ 53 → div binary64 (of_int binary64 (pos n)) (of_int binary64 (pos d)) ≡ round binary64 false n d
div_whole n d h D k = div_values (of_int binary64 (pos n)) (of_int binary64 (pos d)) n d D (whole_value n h) (whole_value d k)

-- ---- the sign
neg_odd : (c q k l : ℕ) → neg (odd c false q k l) ≡ odd c true q k l
unfolding neg odd
neg_odd c zero k l = refl
neg_odd c (suc q) k l = refl

neg_units : (f : Format) (q k : ℕ) → neg (units f false q k) ≡ units f true q k
unfolding units neg
neg_units f q k = go (ltb (q * 2 ^ k) (2 ^ (low f + suc (emax f))))
  where
    go : (b : Bool) → neg (cond b (odd (suc (prec f)) false q k (low f)) (inf false)) ≡ cond b (odd (suc (prec f)) true q k (low f)) (inf true)
    go true = neg_odd (suc (prec f)) q k (low f)
    go false = refl

pub neg_round : (f : Format) (a b : ℕ) → neg (round f false a b) ≡ round f true a b
unfolding round
neg_round f a b = neg_units f _ _

-- ---- at most 15 digits over a power of ten up to 10 ^ 15
pub power_le : (p : ℕ) → p ≤ 15 → 10 ^ p ≤ 10 ^ 15
power_le p h = pow-le-pow_right (lit< tt) h

power_pos : (p : ℕ) → 0 < 10 ^ p
power_pos p = lt_of_lt_of_le (lit< {m = 0} {n = 1} tt) (pow-le-pow_right (lit< tt) zero-le)

pub decimal_quotient : (n p : ℕ) → n < 10 ^ 15 → p ≤ 15 → div binary64 (of_int binary64 (pos n)) (of_int binary64 (pos (10 ^ p))) ≡ round binary64 false n (10 ^ p)
decimal_quotient n p h k = div_whole n (10 ^ p) (lt_of_lt_of_le h (lit≤ tt)) (power_pos p) (lt_of_le_of_lt (power_le p k) (lit< tt))

-- a cast to f64 loses nothing there
pub cast_exact : (n : ℕ) → n ≤ 10 ^ 15 → T (in_float binary64 (pos n))
unfolding in_float
cast_exact n h = le→leb n (2 ^ 53) (le_trans h (lit≤ tt))

-- ---- a decimal without its sign, cut at the point
and_false_right : (a b : Bool) → b ≡ false → (a && b) ≡ false
and_false_right true b h = h
and_false_right false b h = refl

-- the tests, one by one
turned_back : (l : List ℕ) → is_unsigned l ≡ false → unsigned_field l ≡ None
unfolding unsigned_field
turned_back l h = rw h

fails_short : (a b c : Bool) → a ≡ false → (a && b && c) ≡ false
fails_short a b c h = rw h

fails_long : (a b c : Bool) → b ≡ false → (a && b && c) ≡ false
fails_long true b c h = rw h
fails_long false b c h = refl

fails_digits : (a b c : Bool) → c ≡ false → (a && b && c) ≡ false
fails_digits a b c h = and_false_right (a && b) c h

module _ (s : List ℕ) (point rest : ℕ) (P : point ≡ length (before 46 s)) (R : rest ≡ min (point + 1) (length s)) where
  front : take point s ≡ before 46 s
  front = ap (λ (k : ℕ). take k s) P ∙ take_before 46 s

  tail : drop rest s ≡ after 46 s
  tail = ap (λ (k : ℕ). drop k s) (R ∙ ap (λ (k : ℕ). min (k + 1) (length s)) P) ∙ drop_after 46 s

  pub places_are : length s - rest ≡ length (after 46 s)
  places_are = sym (length-drop rest s) ∙ ap length tail

  count_is : point + (length s - rest) ≡ length (digits_of s)
  unfolding digits_of
  count_is = ap (λ (k : ℕ). k + (length s - rest)) P ∙ ap (λ (k : ℕ). length (before 46 s) + k) places_are ∙ sym (length-append (before 46 s) (after 46 s))

  pub no_digits : point + (length s - rest) ≡ 0 → None ≡ unsigned_field s
  unfolding is_unsigned
  no_digits h =
      let z : length (digits_of s) < 1 = omega (arith, count_is) in
      sym (turned_back s (fails_short (leb 1 (length (digits_of s))) (leb (length (digits_of s)) 15) (all_digits (digits_of s)) (lt-leb 1 (length (digits_of s)) z)))

  pub many_digits : 15 < point + (length s - rest) → None ≡ unsigned_field s
  unfolding is_unsigned
  many_digits h =
      let z : 15 < length (digits_of s) = omega (arith, count_is) in
      sym (turned_back s (fails_long (leb 1 (length (digits_of s))) (leb (length (digits_of s)) 15) (all_digits (digits_of s)) (lt-leb (length (digits_of s)) 15 z)))

  no_number : all_digits (digits_of s) ≡ false → None ≡ unsigned_field s
  unfolding is_unsigned
  no_number h = sym (turned_back s (fails_digits (leb 1 (length (digits_of s))) (leb (length (digits_of s)) 15) (all_digits (digits_of s)) h))

  pub bad_front : (r : Option ℕ) → r ≡ digits_field 0 (take point s) → r ≡ None → None ≡ unsigned_field s
  unfolding digits_of
  bad_front r e h =
      let not : all_digits (before 46 s) ≡ false = field_is_not 0 (before 46 s) (ap (digits_field 0) (sym front) ∙ sym e ∙ h) in
      no_number (digits_append (before 46 s) (after 46 s) ∙ ap (λ (b : Bool). b && all_digits (after 46 s)) not)

  pub bad_tail : (n : ℕ) (r : Option ℕ) → r ≡ digits_field n (drop rest s) → r ≡ None → None ≡ unsigned_field s
  unfolding digits_of
  bad_tail n r e h =
      let not : all_digits (after 46 s) ≡ false = field_is_not n (after 46 s) (ap (digits_field n) (sym tail) ∙ sym e ∙ h) in
      no_number (digits_append (before 46 s) (after 46 s) ∙ and_false_right (all_digits (before 46 s)) (all_digits (after 46 s)) not)

  pub front_le : (n : ℕ) (r : Option ℕ) → r ≡ digits_field 0 (take point s) → r ≡ Some n → n ≤ 2 ^ 63
  front_le n r e h = le_trans (le_of_eq (field_is 0 (take point s) n (sym e ∙ h)).value) (capped_le (value_from 0 (take point s)))

  -- both parts are digits
  module _ (n m : ℕ) (q r : Option ℕ) (Q : q ≡ digits_field 0 (take point s)) (q-is : q ≡ Some n) (E : r ≡ digits_field n (drop rest s)) (r-is : r ≡ Some m)
      (some : point + (length s - rest) ≡ 0 → ⊥) (few : point + (length s - rest) ≤ 15) where
    told_front : Told 0 (before 46 s) n
    told_front = field_is 0 (before 46 s) n (ap (digits_field 0) (sym front) ∙ sym Q ∙ q-is)

    told_tail : Told n (after 46 s) m
    told_tail = field_is n (after 46 s) m (ap (digits_field n) (sym tail) ∙ sym E ∙ r-is)

    all : all_digits (digits_of s) ≡ true
    unfolding digits_of
    all = digits_append (before 46 s) (after 46 s) ∙ ap (λ (b : Bool). b && all_digits (after 46 s)) told_front.digits ∙ told_tail.digits

    bound : value_from 0 (digits_of s) < 10 ^ 15
    bound =
        let power : 10 ^ length (digits_of s) ≤ 10 ^ 15 = power_le (length (digits_of s)) (omega (arith, count_is)) in
        lt_of_lt_of_le (value_bound (digits_of s) 0 all) (le_trans (le_of_eq (one-mul (10 ^ length (digits_of s)))) power)

    value_is : m ≡ value_from 0 (digits_of s)
    unfolding digits_of
    value_is =
        told_tail.value
        ∙ capped_from (after 46 s) n (value_from 0 (before 46 s)) (ap capped told_front.value ∙ capped_twice (value_from 0 (before 46 s)))
        ∙ ap capped (sym (value_append 0 (before 46 s) (after 46 s)))
        ∙ capped_below (value_from 0 (digits_of s)) (le_trans (le_of_lt bound) (lit≤ tt))

    pub small : m < 10 ^ 15
    small = lt_of_le_of_lt (le_of_eq value_is) bound

    pub read_right : (x : Float) → x ≡ round binary64 false m (10 ^ (length s - rest)) → Some x ≡ unsigned_field s
    unfolding unsigned_field is_unsigned nearest_of value_of
    read_right x e =
        let one : 1 ≤ length (digits_of s) = omega (arith, count_is, some) in
        let most : length (digits_of s) ≤ 15 = omega (arith, count_is) in
        let same : x ≡ round binary64 false (value_from 0 (digits_of s)) (10 ^ length (after 46 s)) =
        e ∙ ap (λ (k : ℕ). round binary64 false k (10 ^ (length s - rest))) value_is ∙ ap (λ (k : ℕ). round binary64 false (value_from 0 (digits_of s)) (10 ^ k)) places_are in
        rw (le-leb 1 (length (digits_of s)) one, le-leb (length (digits_of s)) 15 most, all) (ap Some same)

-- ---- the sign in front
pub empty_field : (l : List ℕ) → length l ≡ 0 → None ≡ decimal_field l
unfolding decimal_field is_decimal unsigned is_unsigned digits_of before after is_sign
empty_field [] h = refl
empty_field (b ∷ l) h = absurd (omega arith)

module _ (l : List ℕ) (from : ℕ) (F : from ≡ cond (is_sign (get_or l 0 0)) 1 0) where
  sign_drop : drop from l ≡ unsigned l
  unfolding unsigned
  sign_drop = ap (λ (k : ℕ). drop k l) F

  pub sign_inside : (length l ≡ 0 → ⊥) → from ≤ length l
  sign_inside h = le_trans (le_of_eq F) (go (is_sign (get_or l 0 0)))
    where
      go : (b : Bool) → cond b 1 0 ≤ length l
      go true = omega (arith, h)
      go false = zero-le

  pub sign_not : (r : Option Float) → r ≡ unsigned_field (drop from l) → r ≡ None → None ≡ decimal_field l
  unfolding decimal_field is_decimal unsigned_field
  sign_not r e h = go (is_unsigned (unsigned l)) (sym h ∙ e ∙ ap unsigned_field sign_drop)
    where
      go : (b : Bool) → None ≡ cond b (Some (nearest_of false (unsigned l))) None → None ≡ cond b (Some (decimal_of l)) None
      go true k = let z : ◌≡◌ {A = ℕ} 0 1 = cc in absurd (omega arith)
      go false k = refl

  sign_is : (r : Option Float) (x : Float) → r ≡ unsigned_field (drop from l) → r ≡ Some x → (is_unsigned (unsigned l) ≡ true) × (x ≡ nearest_of false (unsigned l))
  unfolding unsigned_field
  sign_is r x e h = go (is_unsigned (unsigned l)) (sym h ∙ e ∙ ap unsigned_field sign_drop)
    where
      go : (b : Bool) → Some x ≡ cond b (Some (nearest_of false (unsigned l))) None → (b ≡ true) × (x ≡ nearest_of false (unsigned l))
      go true k = (refl, cc)
      go false k = let z : ◌≡◌ {A = ℕ} 0 1 = cc in absurd (omega arith)

  -- with the sign that the field has
  signed : (minus : Bool) (x : Float) → is_minus l ≡ minus → is_unsigned (unsigned l) ≡ true → x ≡ nearest_of minus (unsigned l) → Some x ≡ decimal_field l
  unfolding decimal_field is_decimal decimal_of
  signed minus x m u e =
      ap Some e ∙ ap (λ (b : Bool). Some (nearest_of b (unsigned l))) (sym m) ∙ sym (ap (λ (b : Bool). cond b (Some (nearest_of (is_minus l) (unsigned l))) None) u)

  pub sign_minus : (r : Option Float) (x : Float) → get_or l 0 0 ≡ 45 → r ≡ unsigned_field (drop from l) → r ≡ Some x → Some (neg x) ≡ decimal_field l
  unfolding is_minus nearest_of
  sign_minus r x m e h =
      let d = sign_is r x e h in
      signed true (neg x) (eq-eqb (get_or l 0 0) 45 m) d.0 (ap neg d.1 ∙ neg_round binary64 (value_of (digits_of (unsigned l))) (10 ^ length (after 46 (unsigned l))))

  pub sign_plus : (r : Option Float) (x : Float) → (get_or l 0 0 ≡ 45 → ⊥) → r ≡ unsigned_field (drop from l) → r ≡ Some x → Some x ≡ decimal_field l
  unfolding is_minus
  sign_plus r x m e h =
      let d = sign_is r x e h in
      signed false x (ne_eqb (get_or l 0 0) 45 m) d.0 d.1

-- ---- "a zero keeps its sign"
plain : (s : Bool) → round binary64 s 0 1 ≡ fin s 0 (pos 0)
unfolding round units odd
plain s = refl

pub zero_keeps_sign : (minus : Bool) (l : List ℕ) → value_of (digits_of l) ≡ 0 → nearest_of minus l ≡ fin minus 0 (pos 0)
unfolding nearest_of
zero_keeps_sign minus l h = ap (λ (n : ℕ). round binary64 minus n (10 ^ length (after 46 l))) h ∙ round_zero minus (10 ^ length (after 46 l)) (power_pos (length (after 46 l)))
  where
    round_zero : (s : Bool) (d : ℕ) → 0 < d → round binary64 s 0 d ≡ fin s 0 (pos 0)
    round_zero s d D = round_same binary64 s 0 d 0 1 D (lit< tt) (zero-mul 1 ∙ sym (zero-mul d)) ∙ plain s
