-- A box that the ray enters no later than the limit is opened.
use mathlib.Core.Path.{◌≡◌, refl, sym, ap, ◌∙◌, subst}
use mathlib.Core.Bool.{Bool, true, false, cond}
use mathlib.Core.Logic.{inl, inr}
use mathlib.Core.List.{List}
use Prim.Native.Nat.{ℕ, ◌+◌, ◌-◌, ◌*◌, ◌≤◌}
use native.Mathlib.Omega.{arith}
use lib.ListN.{get_or}
use lib.Ieee.{Float, nan, fin, binary64, sub, mul, div, odd, of_bits, of_fields, lt, le, is_nan}
use Rattle.num_float.specs.Order.{lesser}
use Rattle.num_float.specs.Work.{greater}
use Rattle.num_float.specs.Units.{minus_sign}
use Rattle.num_float.proofs.Tests.{contrary}
use Rattle.num_float.proofs.Order.{le_trans, le_numbers, lt_numbers}
use Rattle.num_order.specs.Work.{NonZero}
use Rattle.num_order.proofs.Sums.{sub_right}
use Rattle.num_order.proofs.Products.{nonzero_up, nonzero_down, mul_number}
use Rattle.math.specs.declared.Vec3.{Vec3}
use Rattle.math.specs.Vector.{vec, zero}
use Rattle.solid_boxes.specs.declared.bounds.Bounds.{Bounds}
use Rattle.solid_boxes.specs.Bounds.{Holds}
use Rattle.solid_boxes.specs.Work.{Fit, Tidy}
use Rattle.solid_boxes.specs.Tree.{box_at}
use Rattle.wall_ray.specs.declared.strike.Ray.{Ray}
use Rattle.wall_tree.specs.declared.aim.Aim.{Aim}
use Rattle.wall_ray.specs.declared.slab.Span.{Span}
use Rattle.wall_ray.specs.Slab.{meets, moved, whole_ray, slab_of, passes}
use Rattle.wall_ray.specs.Strike.{inverse_of}
use Rattle.wall_tree.specs.Work.{start_of, Axis, up, down, blind, Aimed, Sides, opens_at}
use Rattle.wall_tree.proofs.SpanLaws.{later, sooner}
use Rattle.wall_tree.proofs.AxisLaws.{low, high, Under, Over, near_up, far_up, near_down, far_down}

-- ---- in the words of the code
pub nan_is : div binary64 zero zero ≡ nan
unfolding div of_bits
nan_is = refl

module _ (o i : Float) where
  pub start_down : lt i zero ≡ true → o ≡ start_of o i
  unfolding start_of
  start_down h = rw h

  pub start_up : lt i zero ≡ false → lt zero i ≡ true → o ≡ start_of o i
  unfolding start_of
  start_up g h = rw (g, h)

  pub start_blind : lt i zero ≡ false → lt zero i ≡ false → div binary64 zero zero ≡ start_of o i
  unfolding start_of
  start_blind g h = nan_is ∙ rw (g, h)

  axis_is : (base : ℕ) → Axis o i base (start_of o i) (cond (lt i zero) (base + 3) base)
  unfolding start_of
  axis_is base = go (lt i zero) (lt zero i) refl refl
    where
      go : (v w : Bool) → lt i zero ≡ v → lt zero i ≡ w → Axis o i base (cond v o (cond w o nan)) (cond v (base + 3) base)
      go true w e f = down e
      go false true e f = up f
      go false false e f = blind nan (unfold is_nan in refl)

  pub axis_of : (base : ℕ) (s : Float) (k : ℕ) → s ≡ start_of o i → k ≡ cond (lt i zero) (base + 3) base → Axis o i base s k
  axis_of base s k e f = rw (e, f) (axis_is base)

side_at : (v : Bool) (base k : ℕ) → k ≡ cond v (base + 3) base → (base ≤ k) × (k ≤ base + 3)
side_at true base k e = (omega arith, omega arith)
side_at false base k e = (omega arith, omega arith)

pub aimed : (r : Ray) (i : Vec3) (x y z : Float) (kx ky kz : ℕ) → i ≡ inverse_of r →
    x ≡ start_of r.origin.x i.x → y ≡ start_of r.origin.y i.y → z ≡ start_of r.origin.z i.z →
    kx ≡ cond (lt i.x zero) (0 + 3) 0 → ky ≡ cond (lt i.y zero) (1 + 3) 1 → kz ≡ cond (lt i.z zero) (2 + 3) 2 →
    Aimed r (record { origin = vec x y z; inv = i; x = kx; y = ky; z = kz })
aimed r i x y z kx ky kz e a b c p q s =
    record {
      inverse = e;
      x_axis =
          axis_of r.origin.x (inverse_of r).x 0 x kx (a ∙ ap (λ (v : Vec3). start_of r.origin.x v.x) e)
          (p ∙ ap (λ (v : Vec3). cond (lt v.x zero) (0 + 3) 0) e);
      y_axis =
          axis_of r.origin.y (inverse_of r).y 1 y ky (b ∙ ap (λ (v : Vec3). start_of r.origin.y v.y) e)
          (q ∙ ap (λ (v : Vec3). cond (lt v.y zero) (1 + 3) 1) e);
      z_axis =
          axis_of r.origin.z (inverse_of r).z 2 z kz (c ∙ ap (λ (v : Vec3). start_of r.origin.z v.z) e)
          (s ∙ ap (λ (v : Vec3). cond (lt v.z zero) (2 + 3) 2) e);
    }

pub sides : (o i : Vec3) (kx ky kz : ℕ) → kx ≡ cond (lt i.x zero) (0 + 3) 0 → ky ≡ cond (lt i.y zero) (1 + 3) 1 →
    kz ≡ cond (lt i.z zero) (2 + 3) 2 →
    Sides (record { origin = o; inv = i; x = kx; y = ky; z = kz })
sides o i kx ky kz p q s =
    let a = side_at (lt i.x zero) 0 kx p in
    let b = side_at (lt i.y zero) 1 ky q in
    let c = side_at (lt i.z zero) 2 kz s in
    record { x = a.1; y = b.1; z = c.1; y_least = b.0; z_least = c.0 }

-- ---- what a NaN does
greater_under : (t n e : Float) → le t e ≡ true → Under n e → le (greater t n) e ≡ true
greater_under t n e p u = go (lt t n) refl u
  where
    nothing : is_nan n ≡ true → lt t n ≡ true → le n e ≡ true
    nothing h l = absurd (contrary h (lt_numbers t n l).1)

    go : (v : Bool) → lt t n ≡ v → Under n e → le (cond v n t) e ≡ true
    go true l (inl h) = nothing h l
    go true l (inr h) = h
    go false l u = p

lesser_over : (t n e : Float) → le e t ≡ true → Over n e → le e (lesser t n) ≡ true
lesser_over t n e p u = go (lt n t) refl u
  where
    nothing : is_nan n ≡ true → lt n t ≡ true → le e n ≡ true
    nothing h l = absurd (contrary h (lt_numbers n t l).0)

    go : (v : Bool) → lt n t ≡ v → Over n e → le e (cond v n t) ≡ true
    go true l (inl h) = nothing h l
    go true l (inr h) = h
    go false l u = p

under_trans : (n x e : Float) → Under n x → le x e ≡ true → Under n e
under_trans n x e (inl h) p = inl h
under_trans n x e (inr h) p = inr (le_trans n x e h p)

over_trans : (n x e : Float) → Over n x → le e x ≡ true → Over n e
over_trans n x e (inl h) p = inl h
over_trans n x e (inr h) p = inr (le_trans e x n p h)

-- ---- one axis of a wider box, whose bounds are `base` and `base + 3` of the numbers f
meets_nan : (x o i : Float) → is_nan o ≡ true → is_nan (meets x o i) ≡ true
unfolding meets
meets_nan x o i h = go (is_nan (mul binary64 (sub binary64 x o) i)) refl
  where
    go : (v : Bool) → is_nan (mul binary64 (sub binary64 x o) i) ≡ v → v ≡ true
    go true e = refl
    go false e = absurd (contrary h (sub_right x o (mul_number (sub binary64 x o) i e)))

zero_is : zero ≡ fin false 0 (lib.IntN.pos 0)
unfolding of_bits of_fields odd
zero_is = refl

module _ (f : ℕ → Float) (base : ℕ) (l h o i : Float) (F : Fit l h) where
  up_nonzero : lt zero i ≡ true → NonZero i × (minus_sign i ≡ false)
  up_nonzero e = nonzero_up i (rw zero_is at e)

  down_nonzero : lt i zero ≡ true → NonZero i × (minus_sign i ≡ true)
  down_nonzero e = nonzero_down i (rw zero_is at e)

  axis_near : (k : ℕ) (s : Float) → Axis o i base s k → le (f base) l ≡ true → le h (f (base + 3)) ≡ true →
      Under (meets (f k) s i) (low (meets l o i) (meets h o i))
  axis_near k s (up e) p q = let w = up_nonzero e in near_up (f base) l h o i w.0 F w.1 p
  axis_near k s (down e) p q = let w = down_nonzero e in near_down (f (base + 3)) l h o i w.0 F w.1 q
  axis_near k s (blind t e) p q = inl (meets_nan (f base) t i e)

  axis_far : (k : ℕ) (s : Float) → Axis o i base s k → le (f base) l ≡ true → le h (f (base + 3)) ≡ true →
      Over (meets (f (base + base + 3 - k)) s i) (high (meets l o i) (meets h o i))
  axis_far k s (up e) p q =
      let w = up_nonzero e in
      let b : base + base + 3 - base ≡ base + 3 = omega arith in
      rw b (far_up (f (base + 3)) l h o i w.0 F w.1 q)
  axis_far k s (down e) p q =
      let w = down_nonzero e in
      let b : base + base + 3 - (base + 3) ≡ base = omega arith in
      rw b (far_down (f base) l h o i w.0 F w.1 p)
  axis_far k s (blind t e) p q = inl (meets_nan (f (base + base + 3 - base)) t i e)

-- ---- what the entry is not before, and what it is not after
record Tops (t a b c e : Float) : Type 0 where
  start : le t e ≡ true
  x : le a e ≡ true
  y : le b e ≡ true
  z : le c e ≡ true

record Bottoms (a b c e : Float) : Type 0 where
  x : le e a ≡ true
  y : le e b ≡ true
  z : le e c ≡ true

-- ---- the box
module _ (l : List Float) (j : ℕ) (a : Aim) (r : Ray) (A : Aimed r a) (b : Bounds) (H : Holds (box_at l j) b) (Y : Tidy b) (limit : Float)
    (P : passes (slab_of b r.origin (inverse_of r)) ≡ true) (L : le (slab_of b r.origin (inverse_of r)).t0 limit ≡ true) where
  abbrev o : Vec3
  o = r.origin

  abbrev i : Vec3
  i = inverse_of r

  abbrev f : ℕ → Float
  f k = get_or l (6 * j + k) nan

  abbrev s0 : Span
  s0 = whole_ray

  abbrev sx : Span
  sx = moved s0 (meets b.lo.x o.x i.x) (meets b.hi.x o.x i.x)

  abbrev sy : Span
  sy = moved sx (meets b.lo.y o.y i.y) (meets b.hi.y o.y i.y)

  abbrev sz : Span
  sz = moved sy (meets b.lo.z o.z i.z) (meets b.hi.z o.z i.z)

  passed : le sz.t0 sz.t1 ≡ true
  passed = unfold passes slab_of in P

  limited : le sz.t0 limit ≡ true
  limited = unfold slab_of in L

  zeroth : f 0 ≡ get_or l (6 * j) nan
  zeroth = let e : 6 * j + 0 ≡ 6 * j = omega arith in ap (λ (k : ℕ). get_or l k nan) e

  held_x : (le (f 0) b.lo.x ≡ true) × (le b.hi.x (f 3) ≡ true)
  held_x = (subst (λ (k : Float). le k b.lo.x ≡ true) (sym zeroth) (unfold box_at in H.low_x), unfold box_at in H.high_x)

  held_y : (le (f 1) b.lo.y ≡ true) × (le b.hi.y (f 4) ≡ true)
  held_y = (unfold box_at in H.low_y, unfold box_at in H.high_y)

  held_z : (le (f 2) b.lo.z ≡ true) × (le b.hi.z (f 5) ≡ true)
  held_z = (unfold box_at in H.low_z, unfold box_at in H.high_z)

  abbrev low_x : Float
  low_x = low (meets b.lo.x o.x i.x) (meets b.hi.x o.x i.x)

  abbrev low_y : Float
  low_y = low (meets b.lo.y o.y i.y) (meets b.hi.y o.y i.y)

  abbrev low_z : Float
  low_z = low (meets b.lo.z o.z i.z) (meets b.hi.z o.z i.z)

  abbrev high_x : Float
  high_x = high (meets b.lo.x o.x i.x) (meets b.hi.x o.x i.x)

  abbrev high_y : Float
  high_y = high (meets b.lo.y o.y i.y) (meets b.hi.y o.y i.y)

  abbrev high_z : Float
  high_z = high (meets b.lo.z o.z i.z) (meets b.hi.z o.z i.z)

  above : Tops zero low_x low_y low_z sz.t0
  above =
      let e = later s0 (meets b.lo.x o.x i.x) (meets b.hi.x o.x i.x) (unfold is_nan of_bits of_fields odd in refl) in
      let f = later sx (meets b.lo.y o.y i.y) (meets b.hi.y o.y i.y) (le_numbers _ _ e.0).1 in
      let g = later sy (meets b.lo.z o.z i.z) (meets b.hi.z o.z i.z) (le_numbers _ _ f.0).1 in
      let h = le_trans _ _ _ f.0 g.0 in
      record { start = le_trans _ _ _ e.0 h; x = le_trans _ _ _ e.1 h; y = le_trans _ _ _ f.1 g.0; z = g.1 }

  below : Bottoms high_x high_y high_z sz.t0
  below =
      let e = sooner s0 (meets b.lo.x o.x i.x) (meets b.hi.x o.x i.x) (unfold is_nan of_bits of_fields odd in refl) in
      let f = sooner sx (meets b.lo.y o.y i.y) (meets b.hi.y o.y i.y) (le_numbers _ _ e.0).0 in
      let g = sooner sy (meets b.lo.z o.z i.z) (meets b.hi.z o.z i.z) (le_numbers _ _ f.0).0 in
      let h = le_trans _ _ _ passed g.0 in
      record { x = le_trans _ _ _ h (le_trans _ _ _ f.0 e.1); y = le_trans _ _ _ h f.1; z = le_trans _ _ _ passed g.1 }

  abbrev fast : Vec3 → Bool
  fast v =
      le
      (greater (greater (greater zero (meets (f a.x) a.origin.x v.x)) (meets (f a.y) a.origin.y v.y)) (meets (f a.z) a.origin.z v.z))
      (lesser (lesser (lesser limit (meets (f (3 - a.x)) a.origin.x v.x)) (meets (f (5 - a.y)) a.origin.y v.y)) (meets (f (7 - a.z)) a.origin.z v.z))

  fast_opens : fast i ≡ true
  fast_opens =
      le_trans _ sz.t0 _
      (greater_under _ _ _
      (greater_under _ _ _
      (greater_under _ _ _ above.start (under_trans _ _ _ (axis_near f 0 _ _ _ _ Y.x a.x a.origin.x A.x_axis held_x.0 held_x.1) above.x))
      (under_trans _ _ _ (axis_near f 1 _ _ _ _ Y.y a.y a.origin.y A.y_axis held_y.0 held_y.1) above.y))
      (under_trans _ _ _ (axis_near f 2 _ _ _ _ Y.z a.z a.origin.z A.z_axis held_z.0 held_z.1) above.z))
      (lesser_over _ _ _
      (lesser_over _ _ _
      (lesser_over _ _ _ limited (over_trans _ _ _ (axis_far f 0 _ _ _ _ Y.x a.x a.origin.x A.x_axis held_x.0 held_x.1) below.x))
      (over_trans _ _ _ (axis_far f 1 _ _ _ _ Y.y a.y a.origin.y A.y_axis held_y.0 held_y.1) below.y))
      (over_trans _ _ _ (axis_far f 2 _ _ _ _ Y.z a.z a.origin.z A.z_axis held_z.0 held_z.1) below.z))

  pub opens_sound : opens_at l j a limit ≡ true
  unfolding opens_at
  opens_sound = subst (λ (v : Vec3). fast v ≡ true) (sym A.inverse) fast_opens
