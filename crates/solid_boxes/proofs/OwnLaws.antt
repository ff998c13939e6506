-- The own box of a polygon of an accepted file: finite, with an inside; and as the code makes it.
use mathlib.Core.Path.{◌≡◌, refl, sym, ap, ◌∙◌, subst}
use mathlib.Core.Bool.{true, false}
use mathlib.Core.List.{List}
use Prim.Native.Nat.{ℕ, zero, suc, ◌+◌, ◌*◌, ◌^◌, ◌≤◌, ◌<◌}
use native.Mathlib.Omega.{arith}
use native.Mathlib.Numerals.{add-one}
use lib.IntN.{ℤ, negsuc}
use lib.Ieee.{Float, fin, binary64, add, sub, neg, lt, eq, le, is_nan, of_bits, of_fields, odd}
use lib.Ieee.Scale.{finite}
use Rattle.num_float.specs.Within.{Within}
use Rattle.num_float.proofs.NonNegative.{finite_number}
use Rattle.num_float.proofs.Order.{le_trans, le_numbers, le_refl_number}
use Rattle.num_float.proofs.Within.{held_small, add_within, sub_within}
use Rattle.num_order.proofs.Sums.{sub_le, add_le, add_comm, add_number}
use Rattle.num_real.specs.Select.{min_of, max_of}
use Rattle.num_real.proofs.SelectLaws.{min_le, le_max, min_within, max_within}
use Rattle.math.specs.declared.Vec3.{Vec3}
use Rattle.math.specs.Vector.{low_of, high_of}
use Rattle.math.specs.Size.{VecWithin}
use Rattle.file_field.specs.Field.{vec_at_of}
use Rattle.file_part.specs.Layout.{vertex_count_of, polygon_count_of, entry_at}
use Rattle.file_part.specs.Part.{first_at, count_at_of, polygon_at, part_of}
use Rattle.file_part.proofs.PartLaws.{part_polygons, part_count}
use Rattle.solid_faces.specs.file_ok.proofs.ReadableLaws.{readable_counts, readable_run, readable_vertex, readable_index}
use Rattle.solid_faces.specs.solid_polygon.specs.Work.{corner_at, Corners}
use Rattle.solid_faces.specs.Faces.{polygon_corner, Checked}
use Rattle.solid_faces.proofs.BodyLaws.{checked_readable}
use Rattle.solid_boxes.specs.declared.bounds.Bounds.{Bounds}
use Rattle.solid_boxes.specs.Bounds.{grown, hull_of, widened, e_6, e_9, padded, own_box_of}
use Rattle.solid_boxes.specs.Work.{Fit, Tidy}

pub small_count : (s : List ℕ) → Checked s → (n : ℕ) → n ≡ polygon_count_of s → n ≤ 4096
small_count s C n e = omega (arith, e, (readable_counts s (checked_readable s C)).1)

-- ---- the lower and the higher of two, where the first is no NaN
pub min_taken : (a x : Float) → is_nan a ≡ false → lt x a ≡ true → x ≡ min_of a x
unfolding min_of
min_taken a x n h = rw (n, h)

pub min_left : (a x : Float) → is_nan a ≡ false → lt x a ≡ false → a ≡ min_of a x
unfolding min_of
min_left a x n h = rw (n, h)

pub max_taken : (a x : Float) → is_nan a ≡ false → lt a x ≡ true → x ≡ max_of a x
unfolding max_of
max_taken a x n h = rw (n, h)

pub max_left : (a x : Float) → is_nan a ≡ false → lt a x ≡ false → a ≡ max_of a x
unfolding max_of
max_left a x n h = rw (n, h)

-- ---- bounds of an axis: the low one not above the high one, and both at most b in size
record Sized (l h : Float) (b : ℕ) : Type 0 where
  order : le l h ≡ true
  low : Within l b
  high : Within h b

sized_one : (x : Float) (b : ℕ) → Within x b → Sized x x b
sized_one x b w = record { order = le_refl_number x (finite_number x w.is_finite); low = w; high = w }

sized_more : (l h x : Float) (b : ℕ) → Sized l h b → Within x b → Sized (min_of l x) (max_of h x) b
sized_more l h x b s w =
    let n = le_numbers l h s.order in
    let m = finite_number x w.is_finite in
    record {
      order = le_trans _ _ _ (min_le l x n.0 m).0 (le_trans _ _ _ s.order (le_max h x n.1 m).0);
      low = min_within l x b s.low w;
      high = max_within h x b s.high w;
    }

-- moved outward by d, which is positive and at most 1
module _ (d : Float) (m : ℕ) (g : ℤ) (is : d ≡ fin false m g) (up : le (neg d) d ≡ true) (one : Within d 1) where
  neg_is : neg d ≡ fin true m g
  unfolding neg
  neg_is = ap (λ (k : Float). neg k) is

  sub_ok : (x : Float) → is_nan x ≡ false → is_nan (sub binary64 x d) ≡ false
  unfolding sub
  sub_ok x h = subst (λ (k : Float). is_nan (add binary64 x k) ≡ false) (sym neg_is) (add_number x true m g h)

  add_ok : (x : Float) → is_nan x ≡ false → is_nan (add binary64 x d) ≡ false
  add_ok x h = subst (λ (k : Float). is_nan (add binary64 x k) ≡ false) (sym is) (add_number x false m g h)

  spread : (x y : Float) → le x y ≡ true → le (sub binary64 x d) (add binary64 y d) ≡ true
  unfolding sub
  spread x y h =
      let n = le_numbers x y h in
      le_trans _ _ _ (sub_le x y d (sub_ok x n.0) (sub_ok y n.1) h)
      (rw (add_comm y (neg d), add_comm y d)
      (add_le (neg d) d y (rw (add_comm (neg d) y) (sub_ok y n.1)) (rw (add_comm d y) (add_ok y n.1)) up))

  sized_out : (l h : Float) (b : ℕ) → b < 100000 → Sized l h b → Sized (sub binary64 l d) (add binary64 h d) (b + 1)
  sized_out l h b k s =
      record {
        order = spread l h s.order;
        low = sub_within l d b 1 (b + 1) s.low one (omega arith) (held_small (b + 1) (omega arith));
        high = add_within h d b 1 (b + 1) s.high one (omega arith) (held_small (b + 1) (omega arith));
      }

-- ---- a box
record SizedBox (b : Bounds) (k : ℕ) : Type 0 where
  x : Sized b.lo.x b.hi.x k
  y : Sized b.lo.y b.hi.y k
  z : Sized b.lo.z b.hi.z k

hull_sized : (c : ℕ → Vec3) (n k b : ℕ) → 0 < n → k ≤ n → ((j : ℕ) → j < n → VecWithin (c j) b) → SizedBox (hull_of c k) b
unfolding hull_of grown low_of high_of
hull_sized c n zero b l h w =
    let v = w 0 l in
    record { x = sized_one _ b v.x_within; y = sized_one _ b v.y_within; z = sized_one _ b v.z_within }
hull_sized c n (suc k) b l h w =
    let s = hull_sized c n k b l (omega (arith, h)) w in
    let v = w k (omega (arith, h)) in
    record {
      x = sized_more _ _ _ b s.x v.x_within;
      y = sized_more _ _ _ b s.y v.y_within;
      z = sized_more _ _ _ b s.z v.z_within;
    }

small : (x : Float) (m : ℕ) (e : ℕ) → x ≡ fin false m (negsuc e) → m ≤ 2 ^ suc e → Within x 1
unfolding finite lib.Ieee.Positive.num lib.Ieee.Positive.den
small x m e i l = subst (λ (k : Float). Within k 1) (sym i) (record { is_finite = tt; size = omega (arith, l) })

wide_sized : (d : Float) (m e : ℕ) → d ≡ fin false m (negsuc e) → le (neg d) d ≡ true → m ≤ 2 ^ suc e → (b : Bounds) (k : ℕ) → k < 100000 →
    SizedBox b k →
    SizedBox (widened d b) (k + 1)
unfolding widened
wide_sized d m e is up l b k h s =
    let one = small d m e is l in
    record {
      x = sized_out d m (negsuc e) is up one _ _ k h s.x;
      y = sized_out d m (negsuc e) is up one _ _ k h s.y;
      z = sized_out d m (negsuc e) is up one _ _ k h s.z;
    }

-- the two widths
e_6_is : e_6 ≡ fin false 4722366482869645 (negsuc 71)
unfolding of_bits of_fields odd
e_6_is = refl

e_6_up : le (neg e_6) e_6 ≡ true
unfolding le lt eq neg of_bits of_fields odd
e_6_up = refl

e_9_is : e_9 ≡ fin false 4835703278458517 (negsuc 81)
unfolding of_bits of_fields odd
e_9_is = refl

e_9_up : le (neg e_9) e_9 ≡ true
unfolding le lt eq neg of_bits of_fields odd
e_9_up = refl

sized_fit : (l h : Float) (k : ℕ) → Sized l h k → Fit l h
sized_fit l h k s = record { order = s.order; low = s.low.is_finite; high = s.high.is_finite }

sized_tidy : (b : Bounds) (k : ℕ) → SizedBox b k → Tidy b
sized_tidy b k s = record { x = sized_fit _ _ k s.x; y = sized_fit _ _ k s.y; z = sized_fit _ _ k s.z }

-- the corners of an accepted polygon
corner_within : (s : List ℕ) → Checked s → (p : ℕ) → p < (part_of s).polygons → (k : ℕ) → k < ((part_of s).polygon p).count →
    VecWithin (polygon_corner (part_of s) p k) 10000
unfolding polygon_corner part_of polygon_at
corner_within s C p l k m = let R = checked_readable s C in readable_vertex s R _ (readable_index s R p l k m)

pub own_tidy : (s : List ℕ) → Checked s → (p : ℕ) → p < (part_of s).polygons → Tidy (padded (own_box_of (part_of s) p))
unfolding own_box_of padded
own_tidy s C p l =
    let n = ((part_of s).polygon p).count in
    let some : 0 < n = omega (arith, part_count s p, (readable_run s (checked_readable s C) p (omega (arith, l, part_polygons s))).least) in
    let hull = hull_sized _ n n 10000 some (omega arith) (corner_within s C p l) in
    let out = wide_sized e_6 4722366482869645 71 e_6_is e_6_up (omega arith) _ _ (omega arith) hull in
    sized_tidy _ _ (wide_sized e_9 4835703278458517 81 e_9_is e_9_up (omega arith) _ _ (omega arith) out)

-- ---- in the words of the code
start_is : (first : ℕ) → first + 0 ≡ first
start_is first = omega arith

-- of the run from vertex `first` on
module _ (s : List ℕ) (first : ℕ) where
  pub hull_none : (a : Vec3) → a ≡ vec_at_of s (24 * first) → record { lo = a; hi = a } ≡ hull_of (corner_at s first) 0
  unfolding hull_of corner_at
  hull_none a e = ap (λ (q : Vec3). record { lo = q; hi = q }) (e ∙ ap (λ (k : ℕ). vec_at_of s (24 * k)) (sym (start_is first)))

  pub hull_more : (k : ℕ) (b d : Bounds) (q : Vec3) → b ≡ hull_of (corner_at s first) k → q ≡ vec_at_of s (24 * (first + k)) → d ≡ grown b q →
      d ≡ hull_of (corner_at s first) (k + 1)
  unfolding hull_of corner_at
  hull_more k b d q e f g = g ∙ rw (add-one, e, f)

  -- a box that is begun has an inside
  pub hull_tidy : (n k : ℕ) (b : Bounds) → Corners s first n → 0 < n → k ≤ n → b ≡ hull_of (corner_at s first) k → Tidy b
  unfolding corner_at
  hull_tidy n k b h some l e = subst Tidy (sym e) (sized_tidy _ _ (hull_sized (corner_at s first) n k 10000 some l h.each))

  pub hull_all : (k n : ℕ) (b c d : Bounds) → k ≡ n → b ≡ hull_of (corner_at s first) k → c ≡ widened e_6 b → d ≡ widened e_9 c →
      d ≡ padded (widened e_6 (hull_of (corner_at s first) n))
  unfolding padded
  hull_all k n b c d l e f g = g ∙ rw (f, e, l)

pub own_run : (s : List ℕ) (v p at first n : ℕ) (b : Bounds) → v ≡ vertex_count_of s → at ≡ entry_at v p → first ≡ first_at s at → n ≡ count_at_of s at →
    b ≡ padded (widened e_6 (hull_of (corner_at s first) n)) → b ≡ padded (own_box_of (part_of s) p)
unfolding own_box_of polygon_corner part_of polygon_at corner_at
own_run s v p at first n b ev ea ef en e = e ∙ rw (ef, en, ea, ev)
