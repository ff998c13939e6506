-- The laws of `<`, `<=` and `==` on floats, in the words of code's tests: `lt x y` is x < y, `le x y` is x <= y, `eq x y` is x == y.
use mathlib.Core.Path.{◌≡◌, refl, sym}
use mathlib.Core.Logic.{◌⊎◌, inl, inr}
use mathlib.Core.Bool.{Bool, true, false, cond}
use native.Mathlib.Nat.{le_of_lt}
use native.Mathlib.Omega.{arith}
use lib.Ieee.{Float, nan, inf, fin, lt, eq, le, is_nan}
use Rattle.num_float.specs.Order.{lesser}
use Rattle.num_float.specs.Work.{greater}
use Rattle.num_float.proofs.Tests.{refuted}
use Rattle.num_float.proofs.Line.{three, lt→<, <→lt, nlt→≥, gt→>, >→gt, ngt→≤, ≤→ngt, eq→≡, ≡→eq, le→≤, ≤→le, nle→>}

-- ---- a comparison that holds has no NaN
-- neither x nor y is a NaN
abbrev Numbers : Float → Float → Type 0
Numbers x y = (is_nan x ≡ false) × (is_nan y ≡ false)

-- x < y has none
pub lt_numbers : (x y : Float) → lt x y ≡ true → Numbers x y
unfolding lt is_nan
lt_numbers nan y h = (sym h, cc)
lt_numbers (inf s) nan h = (refl, sym h)
lt_numbers (inf s) (inf t) h = (refl, refl)
lt_numbers (inf s) (fin t n d) h = (refl, refl)
lt_numbers (fin s m e) nan h = (refl, sym h)
lt_numbers (fin s m e) (inf t) h = (refl, refl)
lt_numbers (fin s m e) (fin t n d) h = (refl, refl)

-- x == y has none
pub eq_numbers : (x y : Float) → eq x y ≡ true → Numbers x y
unfolding eq is_nan
eq_numbers nan y h = (sym h, cc)
eq_numbers (inf s) nan h = (refl, sym h)
eq_numbers (inf s) (inf t) h = (refl, refl)
eq_numbers (inf s) (fin t n d) h = (refl, refl)
eq_numbers (fin s m e) nan h = (refl, sym h)
eq_numbers (fin s m e) (inf t) h = (refl, refl)
eq_numbers (fin s m e) (fin t n d) h = (refl, refl)

-- x <= y has none
pub le_numbers : (x y : Float) → le x y ≡ true → Numbers x y
unfolding le is_nan
le_numbers nan y h = (sym h, cc)
le_numbers (inf s) nan h = (refl, sym h)
le_numbers (inf s) (inf t) h = (refl, refl)
le_numbers (inf s) (fin t n d) h = (refl, refl)
le_numbers (fin s m e) nan h = (refl, sym h)
le_numbers (fin s m e) (inf t) h = (refl, refl)
le_numbers (fin s m e) (fin t n d) h = (refl, refl)

-- ---- chains
-- x < y < z gives x < z
pub lt_trans : (x y z : Float) → lt x y ≡ true → lt y z ≡ true → lt x z ≡ true
lt_trans x y z p q =
    let n = lt_numbers x y p in
    let w = three x y z n.0 n.1 (lt_numbers y z q).1 in
    <→lt w.xz (omega (arith, lt→< w.xy p, lt→< w.yz q))

-- x <= y <= z gives x <= z
pub le_trans : (x y z : Float) → le x y ≡ true → le y z ≡ true → le x z ≡ true
le_trans x y z p q =
    let n = le_numbers x y p in
    let w = three x y z n.0 n.1 (le_numbers y z q).1 in
    ≤→le w.xz (omega (arith, le→≤ w.xy p, le→≤ w.yz q))

-- x < y <= z gives x < z
pub lt_le_trans : (x y z : Float) → lt x y ≡ true → le y z ≡ true → lt x z ≡ true
lt_le_trans x y z p q =
    let n = lt_numbers x y p in
    let w = three x y z n.0 n.1 (le_numbers y z q).1 in
    <→lt w.xz (omega (arith, lt→< w.xy p, le→≤ w.yz q))

-- x <= y < z gives x < z
pub le_lt_trans : (x y z : Float) → le x y ≡ true → lt y z ≡ true → lt x z ≡ true
le_lt_trans x y z p q =
    let n = le_numbers x y p in
    let w = three x y z n.0 n.1 (lt_numbers y z q).1 in
    <→lt w.xz (omega (arith, le→≤ w.xy p, lt→< w.yz q))

-- x == y < z gives x < z
pub eq_lt_trans : (x y z : Float) → eq x y ≡ true → lt y z ≡ true → lt x z ≡ true
eq_lt_trans x y z p q =
    let n = eq_numbers x y p in
    let w = three x y z n.0 n.1 (lt_numbers y z q).1 in
    <→lt w.xz (omega (arith, eq→≡ w.xy p, lt→< w.yz q))

-- x < y == z gives x < z
pub lt_eq_trans : (x y z : Float) → lt x y ≡ true → eq y z ≡ true → lt x z ≡ true
lt_eq_trans x y z p q =
    let n = lt_numbers x y p in
    let w = three x y z n.0 n.1 (eq_numbers y z q).1 in
    <→lt w.xz (omega (arith, lt→< w.xy p, eq→≡ w.yz q))

-- ---- one float, and two either way round
-- x < x never holds
pub lt_irrefl : (x : Float) → lt x x ≡ false
lt_irrefl x = refuted (lt x x) (λ p.
    let n = (lt_numbers x x p).0 in
    let w = three x x x n n n in
    omega (arith, lt→< w.xy p, gt→> w.xy p))

-- x <= x, unless it is a NaN
pub le_refl_number : (x : Float) → is_nan x ≡ false → le x x ≡ true
le_refl_number x n =
    let w = three x x x n n n in
    ≤→le w.xy (ngt→≤ w.xy (lt_irrefl x))

-- x < y gives not y < x
pub lt_asym : (x y : Float) → lt x y ≡ true → lt y x ≡ false
lt_asym x y p =
    let n = lt_numbers x y p in
    let w = three x y y n.0 n.1 n.1 in
    ≤→ngt w.xy (le_of_lt (lt→< w.xy p))

-- x == y gives y == x
pub eq_sym : (x y : Float) → eq x y ≡ true → eq y x ≡ true
eq_sym x y p =
    let n = eq_numbers x y p in
    let w = three x y x n.0 n.1 n.0 in
    ≡→eq w.yz (omega (arith, eq→≡ w.xy p, nlt→≥ w.xz (lt_irrefl x), ngt→≤ w.xz (lt_irrefl x)))

-- ---- from one comparison to another
-- x < y gives x <= y
pub lt_le : (x y : Float) → lt x y ≡ true → le x y ≡ true
unfolding le
lt_le x y p = rw p

-- x <= y gives not y < x
pub le_not_lt : (x y : Float) → le x y ≡ true → lt y x ≡ false
le_not_lt x y p =
    let n = le_numbers x y p in
    let w = three x y y n.0 n.1 n.1 in
    ≤→ngt w.xy (le→≤ w.xy p)

-- x <= y and y <= x give x == y
pub le_antisym : (x y : Float) → le x y ≡ true → le y x ≡ true → eq x y ≡ true
le_antisym x y p q =
    let n = le_numbers x y p in
    let w = three x y y n.0 n.1 n.1 in
    ≡→eq w.xy (omega (arith, le→≤ w.xy p, nlt→≥ w.xy (le_not_lt y x q)))

module _ (x y : Float) (nx : is_nan x ≡ false) (ny : is_nan y ≡ false) where
  -- not x < y gives y <= x, without NaN
  pub not_lt_le : lt x y ≡ false → le y x ≡ true
  not_lt_le p =
      let w = three y x x ny nx nx in
      ≤→le w.xy (ngt→≤ w.xy p)

  -- not x <= y gives y < x, without NaN
  pub not_le_lt : le x y ≡ false → lt y x ≡ true
  not_le_lt p =
      let w = three x y y nx ny ny in
      >→gt w.xy (nle→> w.xy p)

  -- not x <= y gives y <= x, without NaN
  pub not_le_le : le x y ≡ false → le y x ≡ true
  not_le_le p = lt_le y x (not_le_lt p)

  -- neither less gives x == y, without NaN
  pub eq_of_neither : lt x y ≡ false → lt y x ≡ false → eq x y ≡ true
  eq_of_neither p q =
      let w = three x y y nx ny ny in
      ≡→eq w.xy (omega (arith, nlt→≥ w.xy p, ngt→≤ w.xy q))

  -- x < y, x == y or y < x, without NaN
  pub trichotomy : (lt x y ≡ true) ⊎ ((eq x y ≡ true) ⊎ (lt y x ≡ true))
  trichotomy = go (lt x y) (lt y x) refl refl
    where
      go : (a b : Bool) → lt x y ≡ a → lt y x ≡ b → (lt x y ≡ true) ⊎ ((eq x y ≡ true) ⊎ (lt y x ≡ true))
      go true b p q = inl p
      go false true p q = inr (inr q)
      go false false p q = inr (inl (eq_of_neither p q))

-- ---- the lesser and the greater of two are monotone
-- a <= b and x <= y give lesser a x <= lesser b y
pub lesser_mono : (a b x y : Float) → le a b ≡ true → le x y ≡ true → le (lesser a x) (lesser b y) ≡ true
lesser_mono a b x y p q = go (lt x a) (lt y b) refl refl
  where
    go : (v w : Bool) → lt x a ≡ v → lt y b ≡ w → le (cond v x a) (cond w y b) ≡ true
    go true true e f = q
    go true false e f = le_trans x a b (lt_le x a e) p
    go false true e f = le_trans a x y (not_lt_le x a (le_numbers x y q).0 (le_numbers a b p).0 e) q
    go false false e f = p

-- a <= b and x <= y give greater a x <= greater b y
pub greater_mono : (a b x y : Float) → le a b ≡ true → le x y ≡ true → le (greater a x) (greater b y) ≡ true
greater_mono a b x y p q = go (lt a x) (lt b y) refl refl
  where
    go : (v w : Bool) → lt a x ≡ v → lt b y ≡ w → le (cond v x a) (cond w y b) ≡ true
    go true true e f = q
    go true false e f = le_trans x y b q (not_lt_le b y (le_numbers a b p).1 (le_numbers x y q).1 f)
    go false true e f = le_trans a b y p (lt_le b y f)
    go false false e f = p
