-- On one axis: where a ray meets the near and the far bound of a wider box. A NaN there tells nothing and does no harm.
use mathlib.Core.Path.{◌≡◌, refl, sym, ap, ◌∙◌, subst}
use mathlib.Core.Bool.{Bool, true, false, not, ◌||◌, cond}
use mathlib.Core.Logic.{◌⊎◌, inl, inr}
use lib.Dec.{T}
use lib.Ieee.{Float, nan, inf, fin, binary64, sub, le, is_nan}
use lib.Ieee.Scale.{finite}
use Rattle.num_float.specs.Units.{minus_sign}
use Rattle.num_float.proofs.Order.{le_trans, le_refl_number}
use Rattle.num_order.specs.Work.{sided, NonZero}
use Rattle.num_order.proofs.Sums.{sub_le, sub_right, sub_number}
use Rattle.num_order.proofs.Products.{mul_le, mul_number, edge_before, edge_after}
use Rattle.solid_boxes.specs.Work.{Fit}
use Rattle.wall_ray.specs.Slab.{meets, nearer, farther}

-- where the stretch of an axis starts and ends; a NaN stands for the whole ray
abbrev pub low : Float → Float → Float
low a b = cond (is_nan a || is_nan b) (inf true) (nearer a b)

abbrev pub high : Float → Float → Float
high a b = cond (is_nan a || is_nan b) (inf false) (farther a b)

-- n is no number, or at most x
abbrev pub Under : Float → Float → Type 0
Under n x = (is_nan n ≡ true) ⊎ (le n x ≡ true)

abbrev pub Over : Float → Float → Type 0
Over n x = (is_nan n ≡ true) ⊎ (le x n ≡ true)

finite_number : (l o : Float) → T (finite l) → is_nan o ≡ false → is_nan (sub binary64 l o) ≡ false
unfolding finite
finite_number nan o t h = absurd t
finite_number (inf s) o t h = absurd t
finite_number (fin s m e) o t h = sub_number s m e o h

-- the number n, which is no NaN, is before both meetings a and b, or endless
both_under : (n a b : Float) → is_nan n ≡ false → (is_nan a ≡ true → n ≡ inf true) → (is_nan a ≡ false → le n a ≡ true) →
    (is_nan b ≡ true → n ≡ inf true) → (is_nan b ≡ false → le n b ≡ true) → le n (low a b) ≡ true
both_under n a b nn p q r s = go (is_nan a) (is_nan b) refl refl
  where
    ends : n ≡ inf true → le n (inf true) ≡ true
    ends e = subst (λ (k : Float). le k (inf true) ≡ true) (sym e) (le_refl_number (inf true) (unfold is_nan in refl))

    pick : (v : Bool) → le n a ≡ true → le n b ≡ true → le n (cond v a b) ≡ true
    pick true x y = x
    pick false x y = y

    go : (v w : Bool) → is_nan a ≡ v → is_nan b ≡ w → le n (cond (v || w) (inf true) (nearer a b)) ≡ true
    go true w e f = ends (p e)
    go false true e f = ends (r f)
    go false false e f = pick (le a b) (q e) (s f)

both_over : (n a b : Float) → is_nan n ≡ false → (is_nan a ≡ true → n ≡ inf false) → (is_nan a ≡ false → le a n ≡ true) →
    (is_nan b ≡ true → n ≡ inf false) → (is_nan b ≡ false → le b n ≡ true) → le (high a b) n ≡ true
both_over n a b nn p q r s = go (is_nan a) (is_nan b) refl refl
  where
    ends : n ≡ inf false → le (inf false) n ≡ true
    ends e = subst (λ (k : Float). le (inf false) k ≡ true) (sym e) (le_refl_number (inf false) (unfold is_nan in refl))

    pick : (v : Bool) → le a n ≡ true → le b n ≡ true → le (cond v b a) n ≡ true
    pick true x y = y
    pick false x y = x

    go : (v w : Bool) → is_nan a ≡ v → is_nan b ≡ w → le (cond (v || w) (inf false) (farther a b)) n ≡ true
    go true w e f = ends (p e)
    go false true e f = ends (r f)
    go false false e f = pick (le a b) (q e) (s f)

-- the bounds l and h, and a bound x that lies before both or after both
module _ (x l h o i : Float) (S : NonZero i) (F : Fit l h) where
  module _ (n : is_nan (meets x o i) ≡ false) where
    from_x : is_nan (sub binary64 x o) ≡ false
    unfolding meets
    from_x = mul_number (sub binary64 x o) i n

    number : (y : Float) → T (finite y) → is_nan (sub binary64 y o) ≡ false
    number y t = finite_number y o t (sub_right x o from_x)

    first : (y : Float) → T (finite y) → le x y ≡ true → (is_nan (meets y o i) ≡ true → meets x o i ≡ inf (not (minus_sign i)))
    unfolding meets
    first y t p e = edge_before (sub binary64 x o) (sub binary64 y o) i S (sub_le x y o from_x (number y t) p) n e

    second : (y : Float) → T (finite y) → le x y ≡ true → (is_nan (meets y o i) ≡ false → sided (minus_sign i) (meets x o i) (meets y o i) ≡ true)
    unfolding meets
    second y t p e = mul_le (sub binary64 x o) (sub binary64 y o) i n e (sub_le x y o from_x (number y t) p)

    first_after : (y : Float) → T (finite y) → le y x ≡ true → (is_nan (meets y o i) ≡ true → meets x o i ≡ inf (minus_sign i))
    unfolding meets
    first_after y t p e = edge_after (sub binary64 x o) (sub binary64 y o) i S (sub_le y x o (number y t) from_x p) n e

    second_after : (y : Float) → T (finite y) → le y x ≡ true →
        (is_nan (meets y o i) ≡ false → sided (minus_sign i) (meets y o i) (meets x o i) ≡ true)
    unfolding meets
    second_after y t p e = mul_le (sub binary64 y o) (sub binary64 x o) i e n (sub_le y x o (number y t) from_x p)

  by_nan : {A : Type 0} (N : Float) → (is_nan N ≡ false → A) → (is_nan N ≡ true) ⊎ A
  by_nan {A} N f = go (is_nan N) refl
    where
      go : (v : Bool) → is_nan N ≡ v → (is_nan N ≡ true) ⊎ A
      go true e = inl e
      go false e = inr (f e)

  -- the ray runs up: the low bound x is met first
  pub near_up : minus_sign i ≡ false → le x l ≡ true → Under (meets x o i) (low (meets l o i) (meets h o i))
  unfolding sided
  near_up m p =
      by_nan (meets x o i) (λ n.
      both_under (meets x o i) (meets l o i) (meets h o i) n
      (λ e. first n l F.low p e ∙ ap (λ (v : Bool). inf (not v)) m)
      (λ e. subst (λ (v : Bool). sided v (meets x o i) (meets l o i) ≡ true) m (second n l F.low p e))
      (λ e. first n h F.high (le_trans x l h p F.order) e ∙ ap (λ (v : Bool). inf (not v)) m)
      (λ e. subst (λ (v : Bool). sided v (meets x o i) (meets h o i) ≡ true) m (second n h F.high (le_trans x l h p F.order) e)))

  -- and the high bound x last
  pub far_up : minus_sign i ≡ false → le h x ≡ true → Over (meets x o i) (high (meets l o i) (meets h o i))
  unfolding sided
  far_up m p =
      by_nan (meets x o i) (λ n.
      both_over (meets x o i) (meets l o i) (meets h o i) n
      (λ e. first_after n l F.low (le_trans l h x F.order p) e ∙ ap (λ (v : Bool). inf v) m)
      (λ e. subst (λ (v : Bool). sided v (meets l o i) (meets x o i) ≡ true) m (second_after n l F.low (le_trans l h x F.order p) e))
      (λ e. first_after n h F.high p e ∙ ap (λ (v : Bool). inf v) m)
      (λ e. subst (λ (v : Bool). sided v (meets h o i) (meets x o i) ≡ true) m (second_after n h F.high p e)))

  -- the ray runs down: the high bound x is met first
  pub near_down : minus_sign i ≡ true → le h x ≡ true → Under (meets x o i) (low (meets l o i) (meets h o i))
  unfolding sided
  near_down m p =
      by_nan (meets x o i) (λ n.
      both_under (meets x o i) (meets l o i) (meets h o i) n
      (λ e. first_after n l F.low (le_trans l h x F.order p) e ∙ ap (λ (v : Bool). inf v) m)
      (λ e. subst (λ (v : Bool). sided v (meets l o i) (meets x o i) ≡ true) m (second_after n l F.low (le_trans l h x F.order p) e))
      (λ e. first_after n h F.high p e ∙ ap (λ (v : Bool). inf v) m)
      (λ e. subst (λ (v : Bool). sided v (meets h o i) (meets x o i) ≡ true) m (second_after n h F.high p e)))

  -- and the low bound x last
  pub far_down : minus_sign i ≡ true → le x l ≡ true → Over (meets x o i) (high (meets l o i) (meets h o i))
  unfolding sided
  far_down m p =
      by_nan (meets x o i) (λ n.
      both_over (meets x o i) (meets l o i) (meets h o i) n
      (λ e. first n l F.low p e ∙ ap (λ (v : Bool). inf (not v)) m)
      (λ e. subst (λ (v : Bool). sided v (meets x o i) (meets l o i) ≡ true) m (second n l F.low p e))
      (λ e. first n h F.high (le_trans x l h p F.order) e ∙ ap (λ (v : Bool). inf (not v)) m)
      (λ e. subst (λ (v : Bool). sided v (meets x o i) (meets h o i) ≡ true) m (second n h F.high (le_trans x l h p F.order) e)))
