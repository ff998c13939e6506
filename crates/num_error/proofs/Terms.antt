-- How far rounded products, sums and differences are off from the exact ones, in whole numbers.
use mathlib.Core.Path.{◌≡◌, refl, sym, ap, ◌∙◌, subst}
use mathlib.Core.Bool.{Bool, true, false, cond}
use Prim.Native.Nat.{ℕ, ◌+◌, ◌-◌, ◌*◌, ◌/◌, ◌^◌, ◌≤◌, zero-le}
use native.Mathlib.Nat.{le_refl, le_trans, le_of_eq, add-mul, mul-le-mul, mul-le-mul_right, le_of_mul-le-mul_right, zero-add, add-zero}
use native.Mathlib.Omega.{arith}
use lib.Dec.{T}
use lib.IntN.{ℤ, pos, negsuc}
use lib.Pow.{pow_pos}
use lib.Ieee.{Float, nan, inf, fin, binary64, up, down, unlike, fits, add, sub, mul, neg}
use lib.Ieee.Fits.{add-fits, mul-fits, neg-fits}
use lib.Ieee.Scale.{finite}
use Rattle.num_float.specs.Units.{units, minus_sign}
use Rattle.num_float.specs.Within.{Within}
use Rattle.num_float.specs.Work.{above, below, gap, Close, Bounded, Held}
use Rattle.num_float.proofs.Units.{round_sign, bounded_units}
use Rattle.num_float.proofs.Error.{mul_error, add_error}
use Rattle.num_float.proofs.Within.{add_within, mul_within, neg_within}
use Rattle.num_error.specs.Exact.{scale}
use Rattle.num_error.specs.Work.{product_above, product_below}

-- ---- `Close`: wider, the other way round, and scaled
pub close_wider : (a b c d e f : ℕ) → Close a b c d e → e ≤ f → Close a b c d f
close_wider a b c d e f h k = (omega arith, omega arith)

-- the two differences the other way round
pub close_other : (a b c d e : ℕ) → Close a b c d e → Close b a d c e
close_other a b c d e h = (omega arith, omega arith)

pub close_scaled : (a b c d e l : ℕ) → Close a b c d e → Close (a * l) (b * l) (c * l) (d * l) (e * l)
close_scaled a b c d e l h = (
  le_trans (le_of_eq (sym (add-mul a d l))) (le_trans (mul-le-mul_right l h.0) (le_of_eq (add-mul (b + c) e l ∙ ap (λ (z : ℕ). z + e * l) (add-mul b c l)))),
  le_trans (le_of_eq (sym (add-mul b c l))) (le_trans (mul-le-mul_right l h.1) (le_of_eq (add-mul (a + d) e l ∙ ap (λ (z : ℕ). z + e * l) (add-mul a d l)))),
)

-- ---- the parts of a float
pub above_le : (x : Float) → above x ≤ units x
above_le x = go (minus_sign x)
  where
    go : (s : Bool) → cond s 0 (units x) ≤ units x
    go true = zero-le
    go false = le_refl (units x)

pub below_le : (x : Float) → below x ≤ units x
below_le x = go (minus_sign x)
  where
    go : (s : Bool) → cond s (units x) 0 ≤ units x
    go true = le_refl (units x)
    go false = zero-le

pub both_parts : (x : Float) → above x + below x ≡ units x
both_parts x = go (minus_sign x)
  where
    go : (s : Bool) → cond s 0 (units x) + cond s (units x) 0 ≡ units x
    go true = zero-add (units x)
    go false = add-zero (units x)

-- ---- a product
mul_sign : (x y : Float) → T (finite x) → T (finite y) → T (finite (mul binary64 x y)) → minus_sign (mul binary64 x y) ≡ unlike (minus_sign x) (minus_sign y)
unfolding mul
mul_sign nan y p q h = absurd p
mul_sign (inf s) y p q h = absurd p
mul_sign (fin s m e) nan p q h = absurd q
mul_sign (fin s m e) (inf t) p q h = absurd q
mul_sign (fin s m e) (fin t n d) p q h = round_sign (unlike s t) (m * up e * (n * up d)) (down e * down d) h

-- r is u * w up to E, with the sign of the product
by_signs : (s t v : Bool) (r l u w E : ℕ) → v ≡ unlike s t → gap (r * l) (u * w) ≤ E →
    Close (cond v 0 r * l) (cond v r 0 * l) (cond s 0 u * cond t 0 w + cond s u 0 * cond t w 0) (cond s 0 u * cond t w 0 + cond s u 0 * cond t 0 w) E
by_signs s t v r l u w E e h =
    subst (λ (b : Bool). Close (cond b 0 r * l) (cond b r 0 * l) (cond s 0 u * cond t 0 w + cond s u 0 * cond t w 0) (cond s 0 u * cond t w 0 + cond s u 0 * cond t 0 w) E)
    (sym e) (go s t)
  where
    go : (s t : Bool) →
        Close (cond (unlike s t) 0 r * l) (cond (unlike s t) r 0 * l) (cond s 0 u * cond t 0 w + cond s u 0 * cond t w 0) (cond s 0 u * cond t w 0 + cond s u 0 * cond t 0 w) E
    go false false = (omega arith, omega arith)
    go false true = (omega arith, omega arith)
    go true false = (omega arith, omega arith)
    go true true = (omega arith, omega arith)

-- one of at most B units squared is off by at most E of them
pub mul_close : (x y : Float) (B E : ℕ) → T (fits binary64 x) → T (fits binary64 y) → T (finite x) → T (finite y) → T (finite (mul binary64 x y)) →
    units x * units y ≤ B → B + 2 ^ 52 * scale ≤ E * 2 ^ 53 →
    Close (above (mul binary64 x y) * scale) (below (mul binary64 x y) * scale) (product_above x y) (product_below x y) E
mul_close x y B E f g p q h b e =
    by_signs (minus_sign x) (minus_sign y) (minus_sign (mul binary64 x y)) (units (mul binary64 x y)) scale (units x) (units y) E (mul_sign x y p q h)
    (le_of_mul-le-mul_right (le_trans (mul_error x y f g p q h) (le_trans (more (units x * units y) B (2 ^ 52 * scale) b) e)) (pow_pos 53))
  where
    more : (k B z : ℕ) → k ≤ B → k + z ≤ B + z
    more k B z h = omega arith

-- ---- a sum
-- of terms of at most C and D units is off by at most F units
pub add_close : (x y : Float) (C D F : ℕ) → T (fits binary64 x) → T (fits binary64 y) → T (finite x) → T (finite y) → T (finite (add binary64 x y)) →
    units x ≤ C → units y ≤ D → C + D + 2 ^ 52 ≤ F * 2 ^ 53 →
    Close (above (add binary64 x y)) (below (add binary64 x y)) (above x + above y) (below x + below y) F
add_close x y C D F f g p q h a b e =
    add_error x y (C + D) F f g p q h (go (above x) (above y) (below x) (below y) C D (le_trans (above_le x) a) (le_trans (above_le y) b))
    (go (below x) (below y) (above x) (above y) C D (le_trans (below_le x) a) (le_trans (below_le y) b)) e
  where
    go : (u v w z C D : ℕ) → u ≤ C → v ≤ D → u + v ≤ w + z + (C + D)
    go u v w z C D a b = omega arith

-- of n units, and known to be off by at most F, is off by at most G, for a G of about n / 2 ^ 53
pub add_closer : (x y : Float) (F G : ℕ) → T (fits binary64 x) → T (fits binary64 y) → T (finite x) → T (finite y) → T (finite (add binary64 x y)) →
    Close (above (add binary64 x y)) (below (add binary64 x y)) (above x + above y) (below x + below y) F → units (add binary64 x y) + F + 2 ^ 52 ≤ G * 2 ^ 53 →
    Close (above (add binary64 x y)) (below (add binary64 x y)) (above x + above y) (below x + below y) G
add_closer x y F G f g p q h k e =
    let r = add binary64 x y in
    add_error x y (units r + F) G f g p q h
    (over (above r) (below r) (above x + above y) (below x + below y) F (units r) (above_le r) k)
    (under (above r) (below r) (above x + above y) (below x + below y) F (units r) (below_le r) k) e
  where
    over : (a b c d e u : ℕ) → a ≤ u → Close a b c d e → c ≤ d + (u + e)
    over a b c d e u l h = omega arith

    under : (a b c d e u : ℕ) → b ≤ u → Close a b c d e → d ≤ c + (u + e)
    under a b c d e u l h = omega arith

-- ---- w - q, for a q that is near P - M
same_units : (s t : Bool) (m : ℕ) (e : ℤ) → units (fin s m e) ≡ units (fin t m e)
same_units s t m (pos k) = refl
same_units s t m (negsuc k) = refl

neg_parts : (x : Float) → T (finite x) → (above (neg x) ≡ below x) × (below (neg x) ≡ above x)
unfolding neg
neg_parts nan f = absurd f
neg_parts (inf s) f = absurd f
neg_parts (fin true m e) f = (same_units false true m e, refl)
neg_parts (fin false m e) f = (refl, same_units true false m e)

pub sub_close : (w q : Float) (b c d P M e F : ℕ) → Bounded w b → Bounded q c → b + c ≤ d → Held d → b * scale + c * scale + 2 ^ 52 ≤ F * 2 ^ 53 →
    Close (above q * scale) (below q * scale) P M e →
    Close (above (sub binary64 w q) * scale) (below (sub binary64 w q) * scale) (above w * scale + M) (below w * scale + P) (e + F * scale)
unfolding sub
sub_close w q b c d P M e F W Q h H f k =
    let r = add binary64 w (neg q) in
    let N : Bounded (neg q) c = record { fit = neg-fits binary64 q Q.fit; within = neg_within q c Q.within } in
    let R : Within r d = add_within w (neg q) b c d W.within N.within h H in
    let parts = neg_parts q Q.within.is_finite in
    let g : Close (above r) (below r) (above w + above (neg q)) (below w + below (neg q)) F =
    add_close w (neg q) (b * scale) (c * scale) F W.fit N.fit W.within.is_finite N.within.is_finite R.is_finite (bounded_units w b W) (bounded_units (neg q) c N) f in
    let g' : Close (above r) (below r) (above w + below q) (below w + above q) F =
    subst (λ (z : ℕ). Close (above r) (below r) (above w + below q) (below w + z) F) parts.1
    (subst (λ (z : ℕ). Close (above r) (below r) (above w + z) (below w + below (neg q)) F) parts.0 g) in
    joined (above r) (below r) (above w) (below w) (above q) (below q) P M e F scale (close_scaled (above r) (below r) (above w + below q) (below w + above q) F scale g') k
  where
    joined : (rp rm wp wm qp qm P M e F l : ℕ) → Close (rp * l) (rm * l) ((wp + qm) * l) ((wm + qp) * l) (F * l) → Close (qp * l) (qm * l) P M e →
        Close (rp * l) (rm * l) (wp * l + M) (wm * l + P) (e + F * l)
    joined rp rm wp wm qp qm P M e F l g k =
        let a : (wp + qm) * l ≡ wp * l + qm * l = add-mul wp qm l in
        let b : (wm + qp) * l ≡ wm * l + qp * l = add-mul wm qp l in
        (omega arith, omega arith)
