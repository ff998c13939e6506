-- Laws of the inch writer: which numbers it takes, that what it writes is the nearest 64th and within 1/128 inch, and how long the text is.
use mathlib.Core.Path.{◌≡◌, refl, sym, ap, ◌∙◌, subst}
use mathlib.Core.Bool.{Bool, true, false, ◌&&◌, cond}
use mathlib.Core.List.{List, [], ◌++◌}
use Prim.Native.Nat.{ℕ, zero-le, ◌+◌, ◌*◌, ◌/◌, ◌%◌, ◌^◌, ◌≤◌, ◌<◌}
use native.Mathlib.Nat.{le_trans, le_of_eq, mod-lt, div-add-mod', mul-le-mul_left, le_of_mul-le-mul_right, le_of_lt}
use native.Mathlib.Omega.{arith}
use lib.Dec.{T, eqb, leb, lit<}
use lib.ListN.{length, length-append}
use lib.Ieee.{Float, le, lt}
use lib.Ieee.Positive.{num, den, den_pos}
use Rattle.num_float.specs.Sign.{NonNeg}
use Rattle.num_float.specs.Within.{Within}
use Rattle.num_text.specs.Put.{bytes}
use Rattle.num_text.specs.Number.{numeral, width}
use Rattle.num_text.specs.Decimal.{zero, limit, accepted}
use Rattle.num_inch.specs.Nearest.{NearestEven}
use Rattle.num_inch.proofs.NearestLaws.{closest_nearest, nearest_unique}
use Rattle.num_text.proofs.NumberLaws.{length_numeral, width_le}
use Rattle.num_text.proofs.DecimalLaws.{accepts, below_limit}
use Rattle.num_text.proofs.NeverRefused.{accepted_at}
use Rattle.num_inch.specs.Inch.{sixty_fourths, top, bottom, fraction, mixed, inches, inch_text, Within128th}
use Rattle.num_inch.proofs.FractionLaws.{fraction_value, top_below, bottom_le}

-- ---- which numbers are written
pub accepted_inch : (x : Float) → accepted x 0 ≡ true → inch_text x ≡ inches (sixty_fourths x)
unfolding inch_text
accepted_inch x e = rw e

-- the places play no part: what is written in millimetres is written in inches
pub accepted_places : (x : Float) (p : ℕ) → accepted x p ≡ true → accepted x 0 ≡ true
unfolding accepted
accepted_places x p e = go (le zero x && lt x limit) (leb p 3) e
  where
    go : (a b : Bool) → (a && b) ≡ true → (a && true) ≡ true
    go true b e = refl
    go false b e = e

pub taken_inch : (x : Float) → T (le zero x) → T (lt x limit) → inch_text x ≡ inches (sixty_fourths x)
taken_inch x a b = accepted_inch x (accepts x 0 a b zero-le)

pub negative_inch : (x : Float) → le zero x ≡ false → inch_text x ≡ []
unfolding inch_text accepted
negative_inch x e = rw e

pub large_inch : (x : Float) → lt x limit ≡ false → inch_text x ≡ []
unfolding inch_text accepted
large_inch x e = rw e (go (le zero x))
  where
    go : (b : Bool) → cond (b && false && true) (inches (sixty_fourths x)) [] ≡ []
    go true = refl
    go false = refl

-- ---- w + t / b is n / 64, and n is nearest to 320 c / (127 d): w + t / b is within 1 / 128 of 5 c / (127 d)
module _ (c d n w k t b : ℕ) (n-is : w * 64 + k ≡ n) (value : t * 64 ≡ k * b) (h : NearestEven (320 * c) (127 * d) n) where
  mixed_value : (w * b + t) * 64 ≡ n * b
  mixed_value = subst (λ (j : ℕ). (w * b + t) * 64 ≡ j * b) n-is (omega arith)

  scaled_value : 128 * (w * b + t) * (127 * d) ≡ b * (2 * (n * (127 * d)))
  scaled_value = regroup (w * b + t) ∙ ap (λ (j : ℕ). 2 * j * (127 * d)) mixed_value ∙ regroup_2
    where
      regroup : (m : ℕ) → 128 * m * (127 * d) ≡ 2 * (m * 64) * (127 * d)
      regroup m = omega arith

      regroup_2 : 2 * (n * b) * (127 * d) ≡ b * (2 * (n * (127 * d)))
      regroup_2 = omega arith

  high : 128 * (w * b + t) * (127 * d) ≤ 128 * b * (5 * c) + b * (127 * d)
  high = le_trans (le_of_eq scaled_value) (le_trans (mul-le-mul_left b h.not_above) (le_of_eq regroup))
    where
      regroup : b * (2 * (320 * c) + 127 * d) ≡ 128 * b * (5 * c) + b * (127 * d)
      regroup = omega arith

  low : 128 * b * (5 * c) ≤ 128 * (w * b + t) * (127 * d) + b * (127 * d)
  low = le_trans (le_of_eq regroup) (le_trans (mul-le-mul_left b h.not_below) (le_of_eq (regroup_2 ∙ ap (λ (j : ℕ). j + b * (127 * d)) (sym scaled_value))))
    where
      regroup : 128 * b * (5 * c) ≡ b * (2 * (320 * c))
      regroup = omega arith

      regroup_2 : b * (2 * (n * (127 * d)) + 127 * d) ≡ b * (2 * (n * (127 * d))) + b * (127 * d)
      regroup_2 = omega arith

-- a bound l on c / d bounds n
bounded : (c d n l : ℕ) → 0 < d → NearestEven (320 * c) (127 * d) n → c ≤ l * d → n * 254 ≤ 640 * l + 127
bounded c d n l D h k =
    let near : n * 254 * d ≤ 640 * c + 127 * d = omega (arith, h.not_above) in
    let far : n * 254 * d ≤ (640 * l + 127) * d = omega arith in
    le_of_mul-le-mul_right far D

-- ---- "the nearest 64th, an exact half to the even one", and no other number is it
module _ (x : Float) where
  positive : 0 < 127 * den x
  positive = times (den x) (den_pos x)
    where
      times : (d : ℕ) → 0 < d → 0 < 127 * d
      times d h = omega arith

  pub nearest_64th : NearestEven (320 * num x) (127 * den x) (sixty_fourths x)
  unfolding sixty_fourths
  nearest_64th = closest_nearest (320 * num x) (127 * den x) positive

  pub only_64th : (n : ℕ) → NearestEven (320 * num x) (127 * den x) n → n ≡ sixty_fourths x
  only_64th n h = nearest_unique (320 * num x) (127 * den x) positive n (sixty_fourths x) h nearest_64th

  -- "The written value is within 1/128 inch of the exact one"
  pub within_128th : Within128th x (sixty_fourths x / 64) (top (sixty_fourths x % 64)) (bottom (sixty_fourths x % 64))
  within_128th =
      let n = sixty_fourths x in
      let k = n % 64 in
      let value = fraction_value k (mod-lt n (lit< tt)) in
      record {
        at_most = high (num x) (den x) n (n / 64) k (top k) (bottom k) (div-add-mod' n 64) value nearest_64th;
        at_least = low (num x) (den x) n (n / 64) k (top k) (bottom k) (div-add-mod' n 64) value nearest_64th;
      }

-- ---- the length of the text
fraction_length : (k : ℕ) → k < 64 → length (fraction k) ≤ 5
unfolding fraction
fraction_length k h =
    let t : width (top k) ≤ 2 = width_le (top k) 2 (lit< tt) (omega (arith, top_below k h, bottom_le k h)) in
    let b : width (bottom k) ≤ 2 = width_le (bottom k) 2 (lit< tt) (omega (arith, bottom_le k h)) in
    simp length-append (omega (arith, length_numeral (top k), length_numeral (bottom k)))

mixed_length : (w k j : ℕ) → k < 64 → 0 < j → w < 10 ^ j → length (mixed w k) ≤ j + 6
unfolding mixed
mixed_length w k j h J l =
    let digits : width w ≤ j = width_le w j J l in
    go (eqb k 0) (eqb w 0) (numeral w) (fraction k) (le_trans (le_of_eq (length_numeral w)) digits) (fraction_length k h)
  where
    go : (a b : Bool) (n f : List ℕ) → length n ≤ j → length f ≤ 5 → length (cond a n (cond b f (n ++ bytes " " ++ f))) ≤ j + 6
    go true b n f p q = omega arith
    go false true n f p q = omega arith
    go false false n f p q = simp length-append (omega arith)

-- n 64ths, where the whole number has at most j digits
inches_length : (n j : ℕ) → 0 < j → n < 64 * 10 ^ j → length (inches n) ≤ j + 9
unfolding inches
inches_length n j J h = simp length-append (omega (arith, mixed_length (n / 64) (n % 64) j (mod-lt n (lit< tt)) J (whole n (10 ^ j) h)))
  where
    whole : (n p : ℕ) → n < 64 * p → n / 64 < p
    whole n p h = omega arith

-- nothing where the number is not taken
taken_length : (x : Float) (m : ℕ) → (T (le zero x) → T (lt x limit) → length (inches (sixty_fourths x)) ≤ m) → length (inch_text x) ≤ m
unfolding inch_text accepted
taken_length x m h = go (le zero x) (lt x limit) h
  where
    go : (a b : Bool) → (T a → T b → length (inches (sixty_fourths x)) ≤ m) → length (cond (a && b && true) (inches (sixty_fourths x)) []) ≤ m
    go true true h = h tt tt
    go true false h = zero-le
    go false b h = zero-le

-- a bound l on x, in millimetres, leaves the whole number at most j digits
bounded_length : (x : Float) (l j : ℕ) → 0 < j → num x ≤ l * den x → 640 * l + 127 < 16256 * 10 ^ j → length (inches (sixty_fourths x)) ≤ j + 9
bounded_length x l j J h k =
    inches_length (sixty_fourths x) j J (few (sixty_fourths x) l (10 ^ j) (bounded (num x) (den x) (sixty_fourths x) l (den_pos x) (nearest_64th x) h) k)
  where
    few : (n l p : ℕ) → n * 254 ≤ 640 * l + 127 → 640 * l + 127 < 16256 * p → n < 64 * p
    few n l p a b = omega arith

-- the longest is as 45390610417592394 31/64 in
pub inch_length : (x : Float) → length (inch_text x) ≤ 26
inch_length x = taken_length x 26 (λ (a : T (le zero x)) (b : T (lt x limit)). bounded_length x (2 ^ 60) 17 (lit< tt) (le_of_lt (below_limit x a b)) (lit< tt))

-- up to 2 ^ 17 mm, as every length that a check reads off a part: as 5160 19/64 in
pub inch_length_to : (x : Float) → num x ≤ 2 ^ 17 * den x → length (inch_text x) ≤ 13
inch_length_to x h = taken_length x 13 (λ (a : T (le zero x)) (b : T (lt x limit)). bounded_length x (2 ^ 17) 4 (lit< tt) h (lit< tt))

-- ---- for callers that know a bound, in the words of crate num_float
pub written_inch : (x : Float) (b : ℕ) → NonNeg x → Within x b → b < 2 ^ 60 → inch_text x ≡ inches (sixty_fourths x)
written_inch x b nonneg within below = accepted_inch x (accepted_at x b 0 nonneg within below zero-le)
