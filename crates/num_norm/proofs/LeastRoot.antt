-- The least of some roots is the root of the least, as the same f64; and so the greatest.
use mathlib.Core.Path.{◌≡◌, refl, sym, ap, ◌∙◌, subst}
use mathlib.Core.Logic.{inl, inr}
use mathlib.Core.Bool.{Bool, true, false, cond}
use mathlib.Core.List.{List, [], ◌∷◌}
use native.Mathlib.Nat.{le_antisymm}
use lib.Dec.{T}
use lib.Ieee.{Float, nan, inf, fin, binary64, fits, lt, eq, le, is_nan, of_bits}
use Rattle.num_root.specs.Root.{root}
use Rattle.num_root.proofs.Signs.{root_fits}
use Rattle.num_float.specs.Order.{lesser}
use Rattle.num_float.specs.Work.{greater}
use Rattle.num_float.specs.Sign.{plus_zero, NonNeg}
use Rattle.num_float.proofs.Tests.{holds, contrary, cond_has}
use Rattle.num_float.proofs.Line.{le→≤}
use Rattle.num_float.proofs.Order.{lt_le, le_not_lt, not_lt_le, lt_le_trans, le_lt_trans, le_numbers}
use Rattle.num_float.proofs.NonNegative.{nonneg_plus, nonneg_above, not_negative, as_fractions}
use Rattle.num_float.proofs.Units.{units_le, units_unique}
use Rattle.num_norm.specs.Least.{least, roots}
use Rattle.num_norm.specs.Work.{greatest}
use Rattle.num_norm.proofs.RootOrder.{root_nonneg, root_mono}
use Rattle.num_norm.proofs.RootUnits.{smallest_root, smallest_root_le}

-- an f64 that is not below zero: not negative, or a NaN
pub record Operand (x : Float) : Type 0 where
  pub fit : T (fits binary64 x)
  pub not_below : lt x plus_zero ≡ false

nonneg_number : (x : Float) → NonNeg x → is_nan x ≡ false
nonneg_number x p = (le_numbers plus_zero x p).1

-- not x < y gives y <= x, for both not negative
nonneg_not_lt : (x y : Float) → NonNeg x → NonNeg y → lt x y ≡ false → le y x ≡ true
nonneg_not_lt x y p q h = not_lt_le x y (nonneg_number x p) (nonneg_number y q) h

-- ---- two f64 above zero, each at most the other, are one
above_same : (x y : Float) → T (fits binary64 x) → T (fits binary64 y) → lt plus_zero x ≡ true → lt plus_zero y ≡ true → le x y ≡ true → le y x ≡ true → x ≡ y
unfolding le lt eq of_bits
above_same nan y f g p q h k = absurd (holds p)
above_same (inf true) y f g p q h k = absurd (holds p)
above_same (inf false) nan f g p q h k = absurd (holds q)
above_same (inf false) (inf true) f g p q h k = absurd (holds q)
above_same (inf false) (inf false) f g p q h k = refl
above_same (inf false) (fin t n d) f g p q h k = absurd (holds h)
above_same (fin true m e) y f g p q h k = absurd (holds p)
above_same (fin false m e) nan f g p q h k = absurd (holds q)
above_same (fin false m e) (inf true) f g p q h k = absurd (holds q)
above_same (fin false m e) (inf false) f g p q h k = absurd (holds k)
above_same (fin false m e) (fin true n d) f g p q h k = absurd (holds q)
above_same (fin false m e) (fin false n d) f g p q h k =
    let x = fin false m e in
    let y = fin false n d in
    units_unique x y f g tt tt refl
    (le_antisymm (units_le x y f g (le→≤ (as_fractions x y tt tt (nonneg_plus m e) (nonneg_plus n d)) h)) (units_le y x g f (le→≤ (as_fractions y x tt tt (nonneg_plus n d) (nonneg_plus m e)) k)))

-- ---- the tests x < y and root x < root y: they agree, or the roots are one
record Tests (x y : Float) (t u : Bool) : Type 0 where
  pub not_less : t ≡ false → u ≡ false
  pub tied : t ≡ true → u ≡ false → root x ≡ root y

tied_roots : (x y : Float) → T (fits binary64 x) → T (fits binary64 y) → NonNeg x → lt x y ≡ true → lt (root x) (root y) ≡ false → root x ≡ root y
tied_roots x y f g p h n =
    let q = nonneg_above x y p (lt_le x y h) in
    let k : le (root y) (root x) ≡ true = nonneg_not_lt (root x) (root y) (root_nonneg x p) (root_nonneg y q) n in
    let a : lt plus_zero (root y) ≡ true = lt_le_trans plus_zero smallest_root (root y) (unfold lt in unfold of_bits in refl) (smallest_root_le y g (le_lt_trans plus_zero x y p h)) in
    above_same (root x) (root y) (root_fits x f) (root_fits y g) (lt_le_trans plus_zero (root y) (root x) a k) a (root_mono x y p (lt_le x y h)) k

not_less_roots : (x y : Float) → NonNeg x → NonNeg y → lt x y ≡ false → lt (root x) (root y) ≡ false
not_less_roots x y p q n = le_not_lt (root y) (root x) (root_mono y x q (nonneg_not_lt x y p q n))

-- no test with a NaN holds
lt_nan : (x : Float) → lt x nan ≡ false
unfolding lt
lt_nan nan = refl
lt_nan (inf s) = refl
lt_nan (fin s m e) = refl

nan_lt : (x : Float) → lt nan x ≡ false
unfolding lt
nan_lt x = refl

root_nan : root nan ≡ nan
unfolding root
root_nan = refl

no_tests : (x y : Float) (t u : Bool) → t ≡ false → u ≡ false → Tests x y t u
no_tests x y t u h k = record { not_less = λ _. k; tied = λ i _. absurd (contrary i h) }

tests : (x y : Float) → Operand x → Operand y → Tests x y (lt x y) (lt (root x) (root y))
tests x y P Q = elim (not_negative x P.not_below) [
  | inl e ↦ subst (λ (z : Float). Tests z y (lt z y) (lt (root z) (root y))) (sym e) (no_tests nan y (lt nan y) (lt (root nan) (root y)) (nan_lt y) (rw root_nan (nan_lt (root y))))
  | inr p ↦ elim (not_negative y Q.not_below) [
    | inl e ↦ subst (λ (z : Float). Tests x z (lt x z) (lt (root x) (root z))) (sym e) (no_tests x nan (lt x nan) (lt (root x) (root nan)) (lt_nan x) (rw root_nan (lt_nan (root x))))
    | inr q ↦ record { not_less = not_less_roots x y p q; tied = tied_roots x y P.fit Q.fit p }
  ]
]

-- ---- two roots
-- the lesser of two roots is the root of the lesser
pub lesser_root : (a x : Float) → Operand a → Operand x → lesser (root a) (root x) ≡ root (lesser a x)
lesser_root a x A X = go (lt x a) (lt (root x) (root a)) (tests x a X A)
  where
    go : (t u : Bool) → Tests x a t u → cond u (root x) (root a) ≡ root (cond t x a)
    go true true h = refl
    go true false h = sym (h.tied refl refl)
    go false true h = absurd (contrary refl (h.not_less refl))
    go false false h = refl

-- the greater of two roots is the root of the greater
pub greater_root : (a x : Float) → Operand a → Operand x → greater (root a) (root x) ≡ root (greater a x)
greater_root a x A X = go (lt a x) (lt (root a) (root x)) (tests a x A X)
  where
    go : (t u : Bool) → Tests a x t u → cond u (root x) (root a) ≡ root (cond t x a)
    go true true h = refl
    go true false h = h.tied refl refl
    go false true h = absurd (contrary refl (h.not_less refl))
    go false false h = refl

-- ---- along a list
-- each element is an operand
unfoldable pub AllOperands : List Float → Type 0
AllOperands [] = Unit {0}
AllOperands (x ∷ xs) = Operand x × AllOperands xs

-- the least of some roots, from root a on, is the root of the least
pub least_root : (a : Float) (xs : List Float) → Operand a → AllOperands xs → least (root a) (roots xs) ≡ root (least a xs)
unfolding least roots AllOperands
least_root a [] A P = refl
least_root a (x ∷ xs) A P = ap (λ (z : Float). least z (roots xs)) (lesser_root a x A P.0) ∙ least_root (lesser a x) xs (cond_has Operand (lt x a) P.0 A) P.1

-- the greatest of some roots, from root a on, is the root of the greatest
pub greatest_root : (a : Float) (xs : List Float) → Operand a → AllOperands xs → greatest (root a) (roots xs) ≡ root (greatest a xs)
unfolding greatest roots AllOperands
greatest_root a [] A P = refl
greatest_root a (x ∷ xs) A P = ap (λ (z : Float). greatest z (roots xs)) (greater_root a x A P.0) ∙ greatest_root (greater a x) xs (cond_has Operand (lt a x) P.0 A) P.1

-- from infinity on, as `fold(f64::INFINITY, f64::min)`
pub least_root_infinity : (xs : List Float) → AllOperands xs → least (inf false) (roots xs) ≡ root (least (inf false) xs)
unfolding root fits lt of_bits
least_root_infinity xs P = least_root (inf false) xs (record { fit = tt; not_below = refl }) P

-- from 0.0 on, as `fold(0.0, f64::max)`
pub greatest_root_zero : (xs : List Float) → AllOperands xs → greatest plus_zero (roots xs) ≡ root (greatest plus_zero xs)
unfolding root fits lt of_bits
greatest_root_zero xs P = greatest_root plus_zero xs (record { fit = tt; not_below = refl }) P
