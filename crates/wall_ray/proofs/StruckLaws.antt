-- Whether a polygon is struck, test by test, in the words of the code; and what it says that one is.
use mathlib.Core.Path.{◌≡◌, refl, sym, ap, ◌∙◌, subst}
use mathlib.Core.Bool.{Bool, true, false, not, ◌&&◌}
use mathlib.Core.List.{List}
use Prim.Native.Nat.{ℕ, ◌+◌, ◌≤◌, ◌<◌}
use native.Mathlib.Nat.{le_antisymm}
use lib.Ieee.{Float, lt, is_nan}
use Rattle.num_float.proofs.Tests.{and_left, and_right}
use Rattle.num_float.proofs.Order.{le_numbers}
use Rattle.list_laws.specs.Below.{all_below}
use Rattle.list_laws.proofs.Below.{all_more, all_fails}
use Rattle.num_real.specs.Select.{abs_of}
use Rattle.math.specs.declared.Vec3.{Vec3}
use Rattle.math.specs.Vector.{dot_of}
use Rattle.math.specs.Vector as vector
use Rattle.file_part.specs.Layout.{vertex_count_of, entry_at}
use Rattle.file_part.specs.Part.{Part, first_at, count_at_of, polygon_at, part_of}
use Rattle.solid_polygon.specs.declared.polygon.Plane.{Plane}
use Rattle.solid_polygon.specs.Work.{corner_at}
use Rattle.solid_faces.specs.Faces.{polygon_corner, polygon_plane}
use Rattle.solid_boxes.specs.Bounds.{hull_of, widened, e_6, padded, own_box_of}
use Rattle.wall_ray.specs.declared.strike.Ray.{Ray}
use Rattle.wall_ray.specs.Slab.{slab_of, reached_in}
use Rattle.wall_ray.specs.Strike.{e_12, is_parallel, time_of, point_of, is_within, hit_time, is_inside, crosses, inverse_of, own_span, struck}
use Rattle.wall_ray.proofs.SlabLaws.{reached_after}

-- ---- what is struck
module _ (t : Part) (r : Ray) (p : ℕ) (h : struck t r p ≡ true) where
  -- passes `raycast`'s test
  pub struck_crosses : crosses t r p ≡ true
  unfolding struck
  struck_crosses = and_left (crosses t r p) _ h

  -- and its own box, no sooner than there
  pub struck_reached : reached_in (own_span t r p) (hit_time t r p) ≡ true
  unfolding struck
  struck_reached = and_right (crosses t r p) _ h

  -- "t is at least the entry distance": t is no NaN
  pub struck_number : is_nan (hit_time t r p) ≡ false
  struck_number = (le_numbers _ _ (reached_after (own_span t r p) (hit_time t r p) struck_reached)).1

-- ---- all tests of a polygon: the plane's two, the sides', the box's, and one more, g
drop_plane : (a b c d g : Bool) → (a && (b && g)) ≡ false → (((a && (b && c)) && d) && g) ≡ false
drop_plane true true true true g h = h
drop_plane true true true false g h = refl
drop_plane true true false d g h = refl
drop_plane true false c d g h = refl
drop_plane false b c d g h = refl

drop_sides : (a b c d g : Bool) → c ≡ false → (((a && (b && c)) && d) && g) ≡ false
drop_sides true true c d g h = rw h
drop_sides true false c d g h = refl
drop_sides false b c d g h = refl

drop_box : (x d g : Bool) → d ≡ false → ((x && d) && g) ≡ false
drop_box true d g h = rw h
drop_box false d g h = refl

keep_all : (a b c d g : Bool) → c ≡ true → d ≡ true → (a && (b && g)) ≡ true → (((a && (b && c)) && d) && g) ≡ true
keep_all true true c d g e f h = rw (e, f) h
keep_all true false c d g e f h = h
keep_all false b c d g e f h = h

-- ---- the sides
-- one more
pub sides_more : (c : ℕ → Vec3) (n : ℕ) (m q : Vec3) (k : ℕ) (b : Bool) → all_below k (is_within c n m q) ≡ true → b ≡ is_within c n m q k → b ≡ true →
    all_below (k + 1) (is_within c n m q) ≡ true
sides_more c n m q k b h e t = all_more k (is_within c n m q) h (sym e ∙ t)

-- one fails
pub side_fails : (c : ℕ → Vec3) (n : ℕ) (m q : Vec3) (k : ℕ) (b : Bool) → k < n → b ≡ is_within c n m q k → b ≡ false →
    false ≡ all_below n (is_within c n m q)
side_fails c n m q k b l e f = sym (all_fails n (is_within c n m q) k l (sym e ∙ f))

-- none is left
pub sides_all : (c : ℕ → Vec3) (n : ℕ) (m q : Vec3) (k : ℕ) → k ≤ n → n ≤ k → all_below k (is_within c n m q) ≡ true →
    true ≡ all_below n (is_within c n m q)
sides_all c n m q k a z all = sym (subst (λ (j : ℕ). all_below j (is_within c n m q) ≡ true) (le_antisymm a z) all)

-- ---- polygon p of a file, with its plane x, the product d and the time u; `more` is a test of the time alone
module _ (s : List ℕ) (r : Ray) (p : ℕ) (x : Plane) (d u : Float) (more : Float → Bool) (b : Bool)
    (ex : x ≡ polygon_plane (part_of s) p) (ed : d ≡ dot_of x.normal r.dir) (eu : u ≡ time_of x r)
    (eb : b ≡ (not (lt (abs_of d) e_12) && (not (lt u vector.zero) && more u))) where
  abbrev t : Part
  t = part_of s

  pub is_time : u ≡ hit_time t r p
  unfolding hit_time
  is_time = eu ∙ ap (λ (k : Plane). time_of k r) ex

  along : lt (abs_of d) e_12 ≡ is_parallel (polygon_plane t p) r
  unfolding is_parallel
  along = rw (← ex, ← ed)

  plane_tests : (c : Bool) → b ≡ c → (not (is_parallel (polygon_plane t p) r) && (not (lt (hit_time t r p) vector.zero) && more (hit_time t r p))) ≡ c
  plane_tests c e = rw (← is_time, ← along) (sym eb ∙ e)

  -- the tests without a corner fail
  pub off_plane : b ≡ false → (struck t r p && more (hit_time t r p)) ≡ false
  unfolding struck crosses
  off_plane e =
      drop_plane (not (is_parallel (polygon_plane t p) r)) (not (lt (hit_time t r p) vector.zero)) (is_inside t r p) (reached_in (own_span t r p) (hit_time t r p))
      (more (hit_time t r p)) (plane_tests false e)

  module _ (v at first n : ℕ) (q : Vec3) (ev : v ≡ vertex_count_of s) (ea : at ≡ entry_at v p) (ef : first ≡ first_at s at) (en : n ≡ count_at_of s at)
      (eq : q ≡ point_of r u) (c : Bool) (ec : c ≡ all_below n (is_within (corner_at s first) n x.normal q)) where
    sides_are : all_below n (is_within (corner_at s first) n x.normal q)
        ≡ all_below (t.polygon p).count (is_within (polygon_corner t p) (t.polygon p).count x.normal q)
    unfolding polygon_corner part_of polygon_at corner_at
    sides_are = rw (ef, en, ea, ev)

    inside : is_inside t r p ≡ c
    unfolding is_inside
    inside = rw (← is_time, ← ex, ← eq) (sym (ec ∙ sides_are))

    -- a side fails
    pub outside : c ≡ false → (struck t r p && more (hit_time t r p)) ≡ false
    unfolding struck crosses
    outside e =
        drop_sides (not (is_parallel (polygon_plane t p) r)) (not (lt (hit_time t r p) vector.zero)) (is_inside t r p) (reached_in (own_span t r p) (hit_time t r p))
        (more (hit_time t r p)) (inside ∙ e)

    module _ (i : Vec3) (g : Bool) (ei : i ≡ inverse_of r)
        (eg : g ≡ reached_in (slab_of (padded (widened e_6 (hull_of (corner_at s first) n))) r.origin i) u) where
      hull_is : hull_of (corner_at s first) n ≡ hull_of (polygon_corner t p) (t.polygon p).count
      unfolding polygon_corner part_of polygon_at corner_at
      hull_is = rw (ef, en, ea, ev)

      reached : reached_in (own_span t r p) (hit_time t r p) ≡ g
      unfolding own_span own_box_of
      reached = rw (← is_time, ← ei, ← hull_is) (sym eg)

      -- its own box fails
      pub unreached : g ≡ false → (struck t r p && more (hit_time t r p)) ≡ false
      unfolding struck
      unreached e = drop_box (crosses t r p) (reached_in (own_span t r p) (hit_time t r p)) (more (hit_time t r p)) (reached ∙ e)

      -- all pass
      pub taken : b ≡ true → c ≡ true → g ≡ true → (struck t r p && more (hit_time t r p)) ≡ true
      unfolding struck crosses
      taken e1 e2 e3 =
          keep_all (not (is_parallel (polygon_plane t p) r)) (not (lt (hit_time t r p) vector.zero)) (is_inside t r p) (reached_in (own_span t r p) (hit_time t r p))
          (more (hit_time t r p)) (inside ∙ e2) (reached ∙ e3) (plane_tests true e1)
