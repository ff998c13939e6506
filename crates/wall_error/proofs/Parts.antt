-- Whole numbers that stand for errors: sizes, products and sums of them.
use mathlib.Core.Path.{◌≡◌, sym, ap, ◌∙◌, subst}
use mathlib.Core.Logic.{◌⊎◌, inl, inr}
use mathlib.Core.Bool.{Bool, true, false, cond}
use Prim.Native.Nat.{ℕ, ◌+◌, ◌-◌, ◌*◌, ◌≤◌, ◌<◌}
use native.Mathlib.Nat.{le_trans, le_of_eq, le_of_lt, lt_of_lt_of_le, add-mul, mul-add, mul_assoc, mul_comm, mul_right_comm, mul-le-mul_right, mul-le-mul_left, le_of_mul-le-mul_left, le_of_mul-le-mul_right, lt_of_mul-lt-mul_right, add-le-add}
use native.Mathlib.Omega.{arith}
use lib.Dec.{T}
use lib.Pow.{pow_pos}
use lib.Ieee.{Float, binary64, fits}
use lib.Ieee.Scale.{finite}
use lib.Ieee.Positive.{num, den, den_pos}
use Rattle.num_float.specs.Units.{units, minus_sign}
use Rattle.num_float.specs.Within.{Beyond}
use Rattle.num_float.specs.Work.{above, below, gap, Close}
use Rattle.num_float.proofs.Tests.{lt_or_ge}
use Rattle.num_float.proofs.Units.{units_are}
use Rattle.num_error.specs.Exact.{scale}
use Rattle.num_error.proofs.Terms.{close_other, both_parts}
use Rattle.wall_error.specs.Error.{kept_dot}

-- v is y's units times l, l2 is l * l, and x - y is y exactly: at least 1 / k of l2 in size exactly is at least 1 / (k + 1) rounded
far_enough : (k a b x y e v l2 : ℕ) → 0 < k → Close a b x y e → a + b ≡ v → l2 ≤ k * gap x y → k * (k + 1) * e ≤ l2 → l2 ≤ (k + 1) * v
far_enough k a b x y e v l2 some c s h small =
    le_of_mul-le-mul_left
    (split (k * l2) l2 ((k + 1) * l2) ((k + 1) * (k * (v + e))) (k * ((k + 1) * v)) (k * (k + 1) * e) (raised k l2)
    (mul-le-mul_left (k + 1) (le_trans h (mul-le-mul_left k (wide a b x y e v c s)))) (opened k v e) small)
    some
  where
    wide : (a b x y e v : ℕ) → Close a b x y e → a + b ≡ v → gap x y ≤ v + e
    wide a b x y e v c s = omega arith

    raised : (k n : ℕ) → (k + 1) * n ≡ k * n + n
    raised k n = omega arith

    opened : (k v e : ℕ) → (k + 1) * (k * (v + e)) ≡ k * ((k + 1) * v) + k * (k + 1) * e
    opened k v e = omega arith

    split : (kl l kl' whole left right : ℕ) → kl' ≡ kl + l → kl' ≤ whole → whole ≡ left + right → right ≤ l → kl ≤ left
    split kl l kl' whole left right a b c d = omega arith

-- a rounded y is at least 1 / (k + 1) in size where the exact one is at least 1 / k
pub rounded_beyond : (k : ℕ) (y : Float) (p m e : ℕ) → 0 < k → T (fits binary64 y) → T (finite y) → Close (above y * scale) (below y * scale) p m e →
    scale * scale ≤ k * gap p m → k * (k + 1) * e ≤ scale * scale → Beyond y (k + 1)
rounded_beyond k y p m e some f n c h small =
    let v : scale * scale ≤ (k + 1) * (units y * scale) =
    far_enough k (above y * scale) (below y * scale) p m e (units y * scale) (scale * scale) some c
    (sym (add-mul (above y) (below y) scale) ∙ ap (λ (z : ℕ). z * scale) (both_parts y)) h small in
    let u : scale ≤ (k + 1) * units y = le_of_mul-le-mul_right (le_trans v (le_of_eq (sym (mul_assoc (k + 1) (units y) scale)))) (pow_pos 1074) in
    record {
      is_finite = n;
      size = le_of_mul-le-mul_right
          (le_trans (le_of_eq (mul_comm (den y) scale))
          (le_trans (mul-le-mul_right (den y) u)
          (le_of_eq (mul_assoc (k + 1) (units y) (den y) ∙ ap (λ (z : ℕ). (k + 1) * z) (sym (units_are y f)) ∙ sym (mul_assoc (k + 1) (num y) scale) ∙
          ap (λ (z : ℕ). z * scale) (mul_comm (k + 1) (num y))))))
          (pow_pos 1074);
    }

-- sizes as fractions, and in units
pub beyond_units : (y : Float) (b : ℕ) → T (fits binary64 y) → Beyond y b → scale ≤ b * units y
beyond_units y b f h =
    le_of_mul-le-mul_right
    (le_trans (le_of_eq (mul_comm scale (den y)))
    (le_trans (mul-le-mul_right scale h.size)
    (le_of_eq (mul_right_comm (num y) b scale ∙ ap (λ (z : ℕ). z * b) (units_are y f) ∙ mul_right_comm (units y) (den y) b ∙ ap (λ (z : ℕ). z * den y) (mul_comm (units y) b)))))
    (den_pos y)

pub part_gap : (y : Float) (l : ℕ) → gap (above y * l) (below y * l) ≡ units y * l
part_gap y l = go (minus_sign y) (units y)
  where
    go : (s : Bool) (u : ℕ) → gap (cond s 0 u * l) (cond s u 0 * l) ≡ u * l
    go true u = omega arith
    go false u = omega arith

pub half_enough : (a b X Y e v l2 : ℕ) → Close a b X Y e → gap a b ≡ v → l2 ≤ 2 * v → 100 * e ≤ l2 → l2 ≤ kept_dot * gap X Y
half_enough a b X Y e v l2 c s h k = omega arith

-- U - W and a - b, at most H apart, times X - Y
pub times_close : (U W a b H X Y : ℕ) → Close U W a b H → Close (U * X + W * Y) (U * Y + W * X) (a * X + b * Y) (a * Y + b * X) (H * gap X Y)
times_close U W a b H X Y h = go (lt_or_ge X Y)
  where
    raised : (p q r s D : ℕ) → p + q ≤ r + s + H → p * D + q * D ≤ r * D + s * D + H * D
    raised p q r s D h =
        le_trans (le_of_eq (sym (add-mul p q D))) (le_trans (mul-le-mul_right D h) (le_of_eq (add-mul (r + s) H D ∙ ap (λ (z : ℕ). z + H * D) (add-mul r s D))))

    -- for X - Y of at least 0
    rising : (Y D : ℕ) → Close (U * (Y + D) + W * Y) (U * Y + W * (Y + D)) (a * (Y + D) + b * Y) (a * Y + b * (Y + D)) (H * D)
    rising Y D =
        let u : U * (Y + D) ≡ U * Y + U * D = mul-add U Y D in
        let w : W * (Y + D) ≡ W * Y + W * D = mul-add W Y D in
        let a' : a * (Y + D) ≡ a * Y + a * D = mul-add a Y D in
        let b' : b * (Y + D) ≡ b * Y + b * D = mul-add b Y D in
        let x : U * D + b * D ≤ W * D + a * D + H * D = raised U b W a D h.0 in
        let y : W * D + a * D ≤ U * D + b * D + H * D = raised W a U b D h.1 in
        (omega arith, omega arith)

    risen : (X Y : ℕ) → Y ≤ X → Close (U * X + W * Y) (U * Y + W * X) (a * X + b * Y) (a * Y + b * X) (H * gap X Y)
    risen X Y l =
        subst (λ (D : ℕ). Close (U * X + W * Y) (U * Y + W * X) (a * X + b * Y) (a * Y + b * X) (H * D)) (size X Y l)
        (subst (λ (Z : ℕ). Close (U * Z + W * Y) (U * Y + W * Z) (a * Z + b * Y) (a * Y + b * Z) (H * (X - Y))) (back X Y l) (rising Y (X - Y)))
      where
        size : (X Y : ℕ) → Y ≤ X → X - Y ≡ gap X Y
        size X Y l = omega arith

        back : (X Y : ℕ) → Y ≤ X → Y + (X - Y) ≡ X
        back X Y l = omega arith

    go : (X < Y) ⊎ (Y ≤ X) → Close (U * X + W * Y) (U * Y + W * X) (a * X + b * Y) (a * Y + b * X) (H * gap X Y)
    go (inl l) =
        subst (λ (D : ℕ). Close (U * X + W * Y) (U * Y + W * X) (a * X + b * Y) (a * Y + b * X) (H * D)) (turn X Y)
        (close_other (U * Y + W * X) (U * X + W * Y) (a * Y + b * X) (a * X + b * Y) (H * gap Y X) (risen Y X (le_of_lt l)))
      where
        turn : (X Y : ℕ) → gap Y X ≡ gap X Y
        turn X Y = omega arith
    go (inr l) = risen X Y l

-- r and t + e, at most H apart, and t * (X - Y) and (P - M) * l, at most E apart: r - e times X - Y and (P - M) * l
pub sum_close : (r r' t t' e e' X Y p m H E : ℕ) → Close r r' (t + e) (t' + e') H → Close (t * X + t' * Y) (t * Y + t' * X) p m E →
    gap ((r + e') * X + (r' + e) * Y + m) ((r + e') * Y + (r' + e) * X + p) ≤ H * gap X Y + E
sum_close r r' t t' e e' X Y p m H E h k =
    joined ((r + e') * X + (r' + e) * Y) ((r + e') * Y + (r' + e) * X) (t * X + t' * Y) (t * Y + t' * X) p m (H * gap X Y) E
    (times_close (r + e') (r' + e) t t' H X Y (moved r r' t t' e e' H h)) k
  where
    moved : (r r' t t' e e' H : ℕ) → Close r r' (t + e) (t' + e') H → Close (r + e') (r' + e) t t' H
    moved r r' t t' e e' H h = (omega arith, omega arith)

    joined : (a b c d p m f g : ℕ) → Close a b c d f → Close c d p m g → gap (a + m) (b + p) ≤ f + g
    joined a b c d p m f g h k = omega arith

-- an error of H * D + E, for a D of at least l2 / least, is less than 1 / precision of D * l
pub less : (least precision D l l2 H E J : ℕ) → l2 ≤ least * D → J + H * precision ≤ l → E * precision * least < l2 * J → (H * D + E) * precision < D * l
less least precision D l l2 H E J far room small =
    let a : E * precision * least < D * J * least = lt_of_lt_of_le small (le_trans (mul-le-mul_right J far) (le_of_eq (mul_assoc least D J ∙ mul_comm least (D * J)))) in
    let b : E * precision < D * J = lt_of_mul-lt-mul_right least a in
    let c : D * (J + H * precision) ≤ D * l = mul-le-mul_left D room in
    let d : D * (J + H * precision) ≡ D * J + D * (H * precision) = mul-add D J (H * precision) in
    let e : (H * D + E) * precision ≡ H * D * precision + E * precision = add-mul (H * D) E precision in
    let f : H * D * precision ≡ D * (H * precision) = ap (λ (z : ℕ). z * precision) (mul_comm H D) ∙ mul_assoc D H precision in
    go (H * D * precision) (E * precision) (D * J) (D * (H * precision)) (D * (J + H * precision)) (D * l) ((H * D + E) * precision) b c d e f
  where
    go : (x y z w v u s : ℕ) → y < z → v ≤ u → v ≡ z + w → s ≡ x + y → x ≡ w → s < u
    go x y z w v u s b c d e f = omega arith

-- u * eD, for u of at most T * l and eD = A + (v + K) * l, where u * v is at most R
pub growing : (u v A K T R l : ℕ) → u ≤ T * l → u * v ≤ R → u * (A + (v + K) * l) ≤ T * l * (A + K * l) + R * l
growing u v A K T R l h k =
    let e : u * (A + (v + K) * l) ≡ u * (A + K * l) + u * v * l =
    ap (λ (z : ℕ). u * z) (parted A (v * l) (K * l) ((v + K) * l) (add-mul v K l)) ∙ mul-add u (A + K * l) (v * l) ∙ ap (λ (z : ℕ). u * (A + K * l) + z) (sym (mul_assoc u v l)) in
    le_trans (le_of_eq e) (add-le-add (mul-le-mul_right (A + K * l) h) (mul-le-mul_right l k))
  where
    parted : (A x y s : ℕ) → s ≡ x + y → A + s ≡ A + y + x
    parted A x y s e = omega arith
