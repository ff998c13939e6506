-- On one axis: a point along a segment lies between the segment's ends as they are rounded, since rounding keeps the order; so the gap to bounds
-- around the ends is no greater, squared, than the difference of the point and p.
use mathlib.Core.Path.{◌≡◌, refl, sym, ap, ◌∙◌, subst}
use mathlib.Core.Bool.{Bool, true, false, cond}
use Prim.Native.Nat.{ℕ, ◌*◌}
use native.Mathlib.Nat as nat
use lib.Dec.{T, eqb}
use lib.IntN.{pos}
use lib.Ieee.{Float, nan, inf, fin, binary64, up, down, unlike, round, add, sub, mul, neg, lt, le, is_nan, of_bits}
use lib.Ieee.Fits.{down_pos}
use lib.Ieee.Scale.{finite}
use Rattle.num_float.specs.Sign.{NonNeg}
use Rattle.num_float.specs.Units.{minus_sign}
use Rattle.num_float.proofs.Order.{lt_numbers, lt_le, le_trans, lt_le_trans, le_lt_trans, not_lt_le}
use Rattle.num_float.proofs.Rounding.{finite_between}
use Rattle.num_float.proofs.Sign.{square_nonneg}
use Rattle.num_order.specs.Work.{sided}
use Rattle.num_order.proofs.Sums.{add_le, sub_le, add_comm, add_number, round_number}
use Rattle.num_order.proofs.Products.{mul_le, nonzero_up, nonzero_down}
use Rattle.math.specs.Vector.{zero, one}
use Rattle.solid_reach.specs.Work.{Spans, gap_of}

-- ---- products and sums of numbers
unlike_comm : (s t : Bool) → unlike s t ≡ unlike t s
unlike_comm true true = refl
unlike_comm true false = refl
unlike_comm false true = refl
unlike_comm false false = refl

mul_comm : (x y : Float) → mul binary64 x y ≡ mul binary64 y x
unfolding mul
mul_comm nan nan = refl
mul_comm nan (inf t) = refl
mul_comm nan (fin t n d) = refl
mul_comm (inf s) nan = refl
mul_comm (inf s) (inf t) = ap (λ (b : Bool). inf b) (unlike_comm s t)
mul_comm (inf s) (fin t n d) = ap (λ (b : Bool). cond (eqb n 0) nan (inf b)) (unlike_comm s t)
mul_comm (fin s m e) nan = refl
mul_comm (fin s m e) (inf t) = ap (λ (b : Bool). cond (eqb m 0) nan (inf b)) (unlike_comm s t)
mul_comm (fin s m e) (fin t n d) =
    ap (λ (b : Bool). round binary64 b (m * up e * (n * up d)) (down e * down d)) (unlike_comm s t)
    ∙ ap (λ (k : ℕ). round binary64 (unlike t s) k (down e * down d)) (nat.mul_comm (m * up e) (n * up d))
    ∙ ap (λ (k : ℕ). round binary64 (unlike t s) (n * up d * (m * up e)) k) (nat.mul_comm (down e) (down d))

-- a finite result has finite operands
choice_infinite : {A : Type 0} (b s : Bool) → T (finite (cond b nan (inf s))) → A
choice_infinite true s h = absurd h
choice_infinite false s h = absurd h

mul_terms : (x y : Float) → T (finite (mul binary64 x y)) → T (finite x) × T (finite y)
unfolding mul
mul_terms nan y h = absurd h
mul_terms (inf s) nan h = absurd h
mul_terms (inf s) (inf t) h = absurd h
mul_terms (inf s) (fin t n d) h = choice_infinite (eqb n 0) (unlike s t) h
mul_terms (fin s m e) nan h = absurd h
mul_terms (fin s m e) (inf t) h = choice_infinite (eqb m 0) (unlike s t) h
mul_terms (fin s m e) (fin t n d) h = (tt, tt)

pub add_terms : (x y : Float) → T (finite (add binary64 x y)) → T (finite x) × T (finite y)
unfolding add
add_terms nan y h = absurd h
add_terms (inf s) nan h = absurd h
add_terms (inf true) (inf true) h = absurd h
add_terms (inf true) (inf false) h = absurd h
add_terms (inf false) (inf true) h = absurd h
add_terms (inf false) (inf false) h = absurd h
add_terms (inf s) (fin t n d) h = absurd h
add_terms (fin s m e) nan h = absurd h
add_terms (fin s m e) (inf t) h = absurd h
add_terms (fin s m e) (fin t n d) h = (tt, tt)

neg_finite : (x : Float) → T (finite (neg x)) → T (finite x)
unfolding neg
neg_finite nan h = absurd h
neg_finite (inf s) h = absurd h
neg_finite (fin s m e) h = tt

sub_terms : (x y : Float) → T (finite (sub binary64 x y)) → T (finite x) × T (finite y)
unfolding sub
sub_terms x y h = let w = add_terms x (neg y) h in (w.0, neg_finite y w.1)

-- the fraction of a point whose difference is finite
pub point_terms : (a w t p : Float) → T (finite (sub binary64 (add binary64 a (mul binary64 w t)) p)) → T (finite t)
point_terms a w t p h = (mul_terms w t (add_terms a (mul binary64 w t) (sub_terms (add binary64 a (mul binary64 w t)) p h).0).1).1

pub finite_number : (x : Float) → T (finite x) → is_nan x ≡ false
unfolding is_nan
finite_number nan h = absurd h
finite_number (inf s) h = absurd h
finite_number (fin s m e) h = refl

-- finite operands make no NaN
mul_is_number : (x y : Float) → T (finite x) → T (finite y) → is_nan (mul binary64 x y) ≡ false
unfolding mul
mul_is_number nan y f g = absurd f
mul_is_number (inf s) y f g = absurd f
mul_is_number (fin s m e) nan f g = absurd g
mul_is_number (fin s m e) (inf t) f g = absurd g
mul_is_number (fin s m e) (fin t n d) f g = round_number (unlike s t) (m * up e * (n * up d)) (down e * down d) (nat.mul-pos (down_pos e) (down_pos d))

-- one does in a sum
sum_number : (x y : Float) → is_nan x ≡ false → T (finite y) → is_nan (add binary64 x y) ≡ false
sum_number x nan h f = absurd f
sum_number x (inf s) h f = absurd f
sum_number x (fin t k g) h f = add_number x t k g h

difference_number : (x y : Float) → is_nan x ≡ false → T (finite y) → is_nan (sub binary64 x y) ≡ false
unfolding sub neg
difference_number x nan h f = absurd f
difference_number x (inf s) h f = absurd f
difference_number x (fin t k g) h f = add_number x _ k g h

sub_left : (x y : Float) → is_nan (sub binary64 x y) ≡ false → is_nan x ≡ false
unfolding sub add is_nan
sub_left nan y h = h
sub_left (inf s) y h = refl
sub_left (fin s m e) y h = refl

-- ---- zero and one
zero_is : zero ≡ fin false 0 (pos 0)
unfolding of_bits
zero_is = refl

zero_finite : T (finite zero)
unfolding of_bits
zero_finite = tt

one_finite : T (finite one)
unfolding of_bits
one_finite = tt

zero_square : mul binary64 zero zero ≡ zero
unfolding mul of_bits
zero_square = refl

-- ---- a square is no less than that of what is nearer to zero
module _ (g d : Float) (fd : T (finite d)) where
  square_up : lt zero g ≡ true → le g d ≡ true → le (mul binary64 g g) (mul binary64 d d) ≡ true
  unfolding sided
  square_up h k =
      let fg : T (finite g) = finite_between zero g d (lt_le zero g h) k zero_finite fd in
      let sg : minus_sign g ≡ false = (nonzero_up g (subst (λ (z : Float). lt z g ≡ true) zero_is h)).1 in
      let above : lt zero d ≡ true = lt_le_trans zero g d h k in
      let sd : minus_sign d ≡ false = (nonzero_up d (subst (λ (z : Float). lt z d ≡ true) zero_is above)).1 in
      let a : le (mul binary64 g g) (mul binary64 d g) ≡ true
      = subst (λ (b : Bool). sided b (mul binary64 g g) (mul binary64 d g) ≡ true) sg (mul_le g d g (mul_is_number g g fg fg) (mul_is_number d g fd fg) k) in
      let b : le (mul binary64 g d) (mul binary64 d d) ≡ true
      = subst (λ (b : Bool). sided b (mul binary64 g d) (mul binary64 d d) ≡ true) sd (mul_le g d d (mul_is_number g d fg fd) (mul_is_number d d fd fd) k) in
      le_trans (mul binary64 g g) (mul binary64 d g) (mul binary64 d d) a (subst (λ (z : Float). le z (mul binary64 d d) ≡ true) (mul_comm g d) b)

  square_down : lt g zero ≡ true → le d g ≡ true → le (mul binary64 g g) (mul binary64 d d) ≡ true
  unfolding sided
  square_down h k =
      let fg : T (finite g) = finite_between d g zero k (lt_le g zero h) fd zero_finite in
      let sg : minus_sign g ≡ true = (nonzero_down g (subst (λ (z : Float). lt g z ≡ true) zero_is h)).1 in
      let under : lt d zero ≡ true = le_lt_trans d g zero k h in
      let sd : minus_sign d ≡ true = (nonzero_down d (subst (λ (z : Float). lt d z ≡ true) zero_is under)).1 in
      let a : le (mul binary64 g g) (mul binary64 d g) ≡ true
      = subst (λ (b : Bool). sided b (mul binary64 d g) (mul binary64 g g) ≡ true) sg (mul_le d g g (mul_is_number d g fd fg) (mul_is_number g g fg fg) k) in
      let b : le (mul binary64 g d) (mul binary64 d d) ≡ true
      = subst (λ (b : Bool). sided b (mul binary64 d d) (mul binary64 g d) ≡ true) sd (mul_le d g d (mul_is_number d d fd fd) (mul_is_number g d fg fd) k) in
      le_trans (mul binary64 g g) (mul binary64 d g) (mul binary64 d d) a (subst (λ (z : Float). le z (mul binary64 d d) ≡ true) (mul_comm g d) b)

-- ---- the point at the fraction t of the way w from a, and bounds l and h around the ends
module _ (a w : Float) (fa : T (finite a)) (fw : T (finite w)) where
  abbrev point : Float → Float
  point t = add binary64 a (mul binary64 w t)

  turned : (t : Float) → add binary64 (mul binary64 t w) a ≡ point t
  turned t = add_comm (mul binary64 t w) a ∙ ap (add binary64 a) (mul_comm t w)

  turned_number : (t : Float) → T (finite t) → is_nan (add binary64 (mul binary64 t w) a) ≡ false
  turned_number t f = sum_number (mul binary64 t w) a (mul_is_number t w f fw) fa

  point_number : (t : Float) → T (finite t) → is_nan (point t) ≡ false
  point_number t f = subst (λ (z : Float). is_nan z ≡ false) (turned t) (turned_number t f)

  -- it moves one way
  moves : (t u : Float) → T (finite t) → T (finite u) → le t u ≡ true → sided (minus_sign w) (point t) (point u) ≡ true
  unfolding sided
  moves t u ft fu h = go (minus_sign w) (mul_le t u w nt nu h)
    where
      nt : is_nan (mul binary64 t w) ≡ false
      nt = mul_is_number t w ft fw

      nu : is_nan (mul binary64 u w) ≡ false
      nu = mul_is_number u w fu fw

      both : (x y : Float) → T (finite x) → T (finite y) → le (mul binary64 x w) (mul binary64 y w) ≡ true → le (point x) (point y) ≡ true
      both x y fx fy q =
          subst (λ (z : Float). le z (point y) ≡ true) (turned x)
          (subst (λ (z : Float). le (add binary64 (mul binary64 x w) a) z ≡ true) (turned y)
          (add_le (mul binary64 x w) (mul binary64 y w) a (turned_number x fx) (turned_number y fy) q))

      go : (b : Bool) → sided b (mul binary64 t w) (mul binary64 u w) ≡ true → sided b (point t) (point u) ≡ true
      go false q = both t u ft fu q
      go true q = both u t fu ft q

  module _ (t : Float) (ft : T (finite t)) (t0 : le zero t ≡ true) (t1 : le t one ≡ true) (l h : Float) (first : Spans l h (point zero)) (last : Spans l h (point one)) where
    from_first : sided (minus_sign w) (point zero) (point t) ≡ true
    from_first = moves zero t zero_finite ft t0

    to_last : sided (minus_sign w) (point t) (point one) ≡ true
    to_last = moves t one ft one_finite t1

    above_low : is_nan l ≡ false → le l (point t) ≡ true
    unfolding sided
    above_low n = go (minus_sign w) from_first to_last
      where
        go : (b : Bool) → sided b (point zero) (point t) ≡ true → sided b (point t) (point one) ≡ true → le l (point t) ≡ true
        go false p q = le_trans l (point zero) (point t) (not_lt_le (point zero) l (point_number zero zero_finite) n first.low) p
        go true p q = le_trans l (point one) (point t) (not_lt_le (point one) l (point_number one one_finite) n last.low) q

    below_high : is_nan h ≡ false → le (point t) h ≡ true
    unfolding sided
    below_high n = go (minus_sign w) from_first to_last
      where
        go : (b : Bool) → sided b (point zero) (point t) ≡ true → sided b (point t) (point one) ≡ true → le (point t) h ≡ true
        go false p q = le_trans (point t) (point one) h q (not_lt_le h (point one) n (point_number one one_finite) last.high)
        go true p q = le_trans (point t) (point zero) h p (not_lt_le h (point zero) n (point_number zero zero_finite) first.high)

-- a square that is not negative and at most another
pub record Under (g d : Float) : Type 0 where
  pub nonneg : NonNeg (mul binary64 g g)
  pub at_most : le (mul binary64 g g) (mul binary64 d d) ≡ true

module _ (a w t p l h : Float) (t0 : le zero t ≡ true) (t1 : le t one ≡ true) (fd : T (finite (sub binary64 (add binary64 a (mul binary64 w t)) p)))
    (first : Spans l h (add binary64 a (mul binary64 w zero))) (last : Spans l h (add binary64 a (mul binary64 w one))) where
  abbrev n : Float
  n = add binary64 a (mul binary64 w t)

  abbrev d : Float
  d = sub binary64 n p

  ends : T (finite n) × T (finite p)
  ends = sub_terms n p fd

  terms : T (finite a) × T (finite (mul binary64 w t))
  terms = add_terms a (mul binary64 w t) ends.0

  factors : T (finite w) × T (finite t)
  factors = mul_terms w t terms.1

  number_d : is_nan d ≡ false
  number_d = finite_number d fd

  low_side : lt zero (sub binary64 l p) ≡ true → Under (sub binary64 l p) d
  low_side c =
      let nl : is_nan (sub binary64 l p) ≡ false = (lt_numbers zero (sub binary64 l p) c).1 in
      let q : le l n ≡ true = above_low a w terms.0 factors.0 t factors.1 t0 t1 l h first last (sub_left l p nl) in
      record { nonneg = square_nonneg (sub binary64 l p) nl; at_most = square_up (sub binary64 l p) d fd c (sub_le l n p nl number_d q) }

  high_side : lt (sub binary64 h p) zero ≡ true → Under (sub binary64 h p) d
  high_side c =
      let nh : is_nan (sub binary64 h p) ≡ false = (lt_numbers (sub binary64 h p) zero c).0 in
      let q : le n h ≡ true = below_high a w terms.0 factors.0 t factors.1 t0 t1 l h first last (sub_left h p nh) in
      record { nonneg = square_nonneg (sub binary64 h p) nh; at_most = square_down (sub binary64 h p) d fd c (sub_le n h p number_d nh q) }

  inside : Under zero d
  inside =
      record {
        nonneg = square_nonneg zero (finite_number zero zero_finite);
        at_most = subst (λ (z : Float). le z (mul binary64 d d) ≡ true) (sym zero_square) (square_nonneg d number_d);
      }

  pub gap_under : Under (gap_of l h p) d
  unfolding gap_of
  gap_under = low (lt zero (sub binary64 l p)) refl
    where
      high : (b : Bool) → lt (sub binary64 h p) zero ≡ b → Under (cond b (sub binary64 h p) zero) d
      high true c = high_side c
      high false c = inside

      low : (b : Bool) → lt zero (sub binary64 l p) ≡ b → Under (cond b (sub binary64 l p) (cond (lt (sub binary64 h p) zero) (sub binary64 h p) zero)) d
      low true c = low_side c
      low false c = high (lt (sub binary64 h p) zero) refl

-- ---- sums of what is not negative
pub sum_under : (x y u v : Float) → NonNeg x → NonNeg u → le x y ≡ true → le u v ≡ true → T (finite (add binary64 y v)) → le (add binary64 x u) (add binary64 y v) ≡ true
sum_under x y u v px pu h k f =
    let fy : T (finite y) = (add_terms y v f).0 in
    let fv : T (finite v) = (add_terms y v f).1 in
    let fx : T (finite x) = finite_between zero x y px h zero_finite fy in
    let fu : T (finite u) = finite_between zero u v pu k zero_finite fv in
    let a : le (add binary64 x u) (add binary64 y u) ≡ true = add_le x y u (sum_number x u (finite_number x fx) fu) (sum_number y u (finite_number y fy) fu) h in
    let b : le (add binary64 u y) (add binary64 v y) ≡ true = add_le u v y (sum_number u y (finite_number u fu) fy) (sum_number v y (finite_number v fv) fy) k in
    le_trans (add binary64 x u) (add binary64 y u) (add binary64 y v) a
    (subst (λ (z : Float). le z (add binary64 y v) ≡ true) (add_comm u y) (subst (λ (z : Float). le (add binary64 u y) z ≡ true) (add_comm v y) b))
