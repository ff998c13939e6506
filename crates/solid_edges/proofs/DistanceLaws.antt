-- The least distance from edges, side by side: the root of the least square is the least distance.
use mathlib.Core.Path.{◌≡◌, refl, sym, ap, ◌∙◌, subst}
use mathlib.Core.Bool.{Bool, true, false, cond}
use mathlib.Core.Logic.{◌⊎◌, inl, inr}
use Prim.Native.Nat.{ℕ, zero, suc, ◌+◌, ◌≤◌, ◌<◌}
use native.Mathlib.Numerals.{add-one}
use native.Mathlib.Omega.{arith}
use lib.Ieee.{Float, nan, inf, binary64, fits, lt, is_nan, of_bits}
use Rattle.num_float.specs.Order.{lesser}
use Rattle.num_float.specs.Sign.{NonNeg}
use Rattle.num_float.proofs.Tests.{refuted, contrary, cond_has, lt_or_ge}
use Rattle.num_float.proofs.Order.{lt_trans, lt_irrefl, lt_le, le_numbers}
use Rattle.num_float.proofs.NonNegative.{not_negative}
use Rattle.num_root.specs.Root.{root}
use Rattle.num_norm.proofs.RootOrder.{root_nonneg}
use Rattle.num_norm.proofs.LeastRoot.{Operand, lesser_root}
use Rattle.num_norm.proofs.Squares.{squared_operand}
use Rattle.num_real.specs.Select.{min_of}
use Rattle.math.specs.declared.Vec3.{Vec3}
use Rattle.math.specs.Vector.{minus, length_sq_of, length_of, distance_of}
use Rattle.file_part.specs.Part.{Part}
use Rattle.solid_segments.specs.Sides.{to_of}
use Rattle.solid_distance.specs.Segment.{nearest_on, seg_distance}
use Rattle.solid_edges.specs.Distance.{side_distance, distance_to}
use Rattle.solid_edges.specs.Work.{side_square}

-- ---- one side
root_square : (t : Part) (p : Vec3) (s : ℕ) → side_distance t p s ≡ root (side_square t p s)
unfolding side_distance side_square seg_distance distance_of length_of length_sq_of
root_square t p s = refl

square_operand : (t : Part) (p : Vec3) (s : ℕ) → Operand (side_square t p s)
unfolding side_square length_sq_of
square_operand t p s =
    let v = minus (nearest_on p (t.vertex s) (t.vertex (to_of t s))) p in
    squared_operand v.x v.y v.z

-- ---- side by side
-- x is the least square over the sides below n that pass the test: its root is the least distance
pub record LeastSquare (t : Part) (test : ℕ → Bool) (p : Vec3) (n : ℕ) (x : Float) : Type 0 where
  pub root_is : root x ≡ distance_to t test p n
  pub operand : Operand x
  pub number : is_nan x ≡ false

pub least_none : (t : Part) (test : ℕ → Bool) (p : Vec3) → LeastSquare t test p 0 (of_bits binary64 0x7ff0_0000_0000_0000)
unfolding root fits lt of_bits distance_to is_nan
least_none t test p = record { root_is = refl; operand = record { fit = tt; not_below = refl }; number = refl }

-- the root of a number that is not below zero is a number
root_number : (x : Float) → Operand x → is_nan x ≡ false → is_nan (root x) ≡ false
unfolding is_nan
root_number x h n = go (not_negative x h.not_below)
  where
    go : (x ≡ nan) ⊎ NonNeg x → is_nan (root x) ≡ false
    go (inl e) = absurd (contrary (ap is_nan e) n)
    go (inr p) = (le_numbers _ (root x) (root_nonneg x p)).1

-- where the first is a number, `min` takes the lesser
min_lesser : (a b : Float) → is_nan a ≡ false → min_of a b ≡ lesser a b
unfolding min_of
min_lesser a b h = rw h

lesser_number : (a x : Float) → is_nan a ≡ false → is_nan (lesser a x) ≡ false
lesser_number a x h = go (lt x a) refl
  where
    go : (b : Bool) → lt x a ≡ b → is_nan (cond b x a) ≡ false
    go true l = (le_numbers x a (lt_le x a l)).0
    go false l = h

pub least_near : (t : Part) (test : ℕ → Bool) (p : Vec3) (s : ℕ) (x r : Float) (b : Bool) → LeastSquare t test p s x → b ≡ test s → b ≡ true →
    r ≡ lesser x (side_square t p s) → LeastSquare t test p (s + 1) r
unfolding distance_to
least_near t test p s x r b h e w q =
    let near : LeastSquare t test p (suc s) (lesser x (side_square t p s))
    = record {
      root_is = sym (
          ap (λ (k : Bool). cond k (min_of (distance_to t test p s) (side_distance t p s)) (distance_to t test p s)) (sym e ∙ w)
          ∙ ap (λ (y : Float). min_of y (side_distance t p s)) (sym h.root_is)
          ∙ ap (min_of (root x)) (root_square t p s)
          ∙ min_lesser (root x) (root (side_square t p s)) (root_number x h.operand h.number)
          ∙ lesser_root x (side_square t p s) h.operand (square_operand t p s)
          );
      operand = cond_has Operand (lt (side_square t p s) x) (square_operand t p s) h.operand;
      number = lesser_number x (side_square t p s) h.number;
    } in
    rw (q, add-one) near

pub least_past : (t : Part) (test : ℕ → Bool) (p : Vec3) (s : ℕ) (x r : Float) (b : Bool) → LeastSquare t test p s x → b ≡ test s → b ≡ false →
    r ≡ x → LeastSquare t test p (s + 1) r
unfolding distance_to
least_past t test p s x r b h e w q =
    let past : LeastSquare t test p (suc s) x
    = record {
      root_is = h.root_is
          ∙ sym (ap (λ (k : Bool). cond k (min_of (distance_to t test p s) (side_distance t p s)) (distance_to t test p s)) (sym e ∙ w));
      operand = h.operand;
      number = h.number;
    } in
    rw (q, add-one) past

-- ---- what the distance is: that of some side that passes the test, with none nearer; infinity where no side gives a lower one
pub record OfSide (t : Part) (test : ℕ → Bool) (p : Vec3) (n : ℕ) (x : Float) : Type 0 where
  pub side : ℕ
  pub below : side < n
  pub passes : test side ≡ true
  pub is : side_distance t p side ≡ x

wider_some : (t : Part) (test : ℕ → Bool) (p : Vec3) (n : ℕ) (x : Float) → (x ≡ inf false) ⊎ OfSide t test p n x →
    (x ≡ inf false) ⊎ OfSide t test p (suc n) x
wider_some t test p n x (inl e) = inl e
wider_some t test p n x (inr h) = inr (record { side = h.side; below = omega (arith, h.below); passes = h.passes; is = h.is })

pub record LeastOver (t : Part) (test : ℕ → Bool) (p : Vec3) (n : ℕ) (x : Float) : Type 0 where
  pub none_nearer : (s : ℕ) → s < n → test s ≡ true → lt (side_distance t p s) x ≡ false
  pub of_some : (x ≡ inf false) ⊎ OfSide t test p n x
  pub a_number : is_nan x ≡ false

least_step : (t : Part) (test : ℕ → Bool) (p : Vec3) (n : ℕ) (x : Float) (b : Bool) → test n ≡ b → LeastOver t test p n x →
    LeastOver t test p (suc n) (cond b (min_of x (side_distance t p n)) x)
least_step t test p n x false e h =
    record {
      none_nearer = λ s l w. go s w (lt_or_ge s n) l;
      of_some = wider_some t test p n x h.of_some;
      a_number = h.a_number;
    }
  where
    go : (s : ℕ) → test s ≡ true → (s < n) ⊎ (n ≤ s) → s < suc n → lt (side_distance t p s) x ≡ false
    go s w (inl low) l = h.none_nearer s low w
    go s w (inr high) l = let here : n ≡ s = omega (arith, l, high) in absurd (contrary w (ap test (sym here) ∙ e))
least_step t test p n x true e h =
    subst (LeastOver t test p (suc n)) (sym (min_lesser x (side_distance t p n) h.a_number)) (go (lt (side_distance t p n) x) refl)
  where
    -- of the sides below n and side n
    each : (y : Float) → ((s : ℕ) → s < n → test s ≡ true → lt (side_distance t p s) y ≡ false) → lt (side_distance t p n) y ≡ false →
        (s : ℕ) → s < suc n → test s ≡ true → lt (side_distance t p s) y ≡ false
    each y before last s l w = side (lt_or_ge s n)
      where
        side : (s < n) ⊎ (n ≤ s) → lt (side_distance t p s) y ≡ false
        side (inl low) = before s low w
        side (inr high) =
            let here : n ≡ s = omega (arith, l, high) in
            subst (λ (k : ℕ). lt (side_distance t p k) y ≡ false) here last

    go : (b : Bool) → lt (side_distance t p n) x ≡ b → LeastOver t test p (suc n) (cond b (side_distance t p n) x)
    go true c =
        record {
          none_nearer = each (side_distance t p n)
              (λ s l w. refuted (lt (side_distance t p s) (side_distance t p n))
              (λ y. contrary (lt_trans (side_distance t p s) (side_distance t p n) x y c) (h.none_nearer s l w)))
              (lt_irrefl (side_distance t p n));
          of_some = inr (record { side = n; below = omega arith; passes = e; is = refl });
          a_number = (le_numbers (side_distance t p n) x (lt_le (side_distance t p n) x c)).0;
        }
    go false c =
        record {
          none_nearer = each x h.none_nearer c;
          of_some = wider_some t test p n x h.of_some;
          a_number = h.a_number;
        }

pub distance_least : (t : Part) (test : ℕ → Bool) (p : Vec3) (n : ℕ) → LeastOver t test p n (distance_to t test p n)
unfolding distance_to is_nan
distance_least t test p zero = record { none_nearer = λ s l. absurd (omega (arith, l)); of_some = inl refl; a_number = refl }
distance_least t test p (suc n) = least_step t test p n (distance_to t test p n) (test n) refl (distance_least t test p n)
