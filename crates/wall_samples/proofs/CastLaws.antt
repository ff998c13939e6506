-- The ray of a polygon and what it hits, in the words of what the code calls.
use mathlib.Core.Path.{◌≡◌, refl, sym, ap, ◌∙◌, subst}
use mathlib.Core.Bool.{Bool, true, false, cond}
use mathlib.Core.List.{List, []}
use Prim.Native.Nat.{ℕ, ◌+◌, ◌*◌, ◌≤◌, ◌<◌}
use native.Mathlib.Omega.{arith}
use lib.ListN.{length}
use lib.Ieee.{Float, neg, lt}
use Rattle.list_laws.specs.Region.{part}
use Rattle.math.specs.declared.Vec3.{Vec3}
use Rattle.math.specs.Vector.{one, plus, times, dot_of}
use Rattle.file_part.specs.Layout.{vertex_count_of, entry_at}
use Rattle.file_part.specs.Part.{Part, first_at, count_at_of, polygon_at, part_of}
use Rattle.solid_polygon.specs.declared.polygon.Plane.{Plane}
use Rattle.solid_polygon.specs.Polygon.{half, centroid_of}
use Rattle.solid_polygon.specs.Work.{corner_at}
use Rattle.solid_faces.specs.Faces.{polygon_corner, polygon_plane}
use Rattle.solid_faces.specs.Kept.{plane_at_of}
use Rattle.scratch.specs.declared.regions.Regions.{Regions}
use Rattle.scratch.specs.Standing.{Standing}
use Rattle.wall_tree.specs.wall_ray.specs.declared.strike.Ray.{Ray}
use Rattle.wall_tree.specs.wall_ray.specs.declared.strike.Hit.{Hit}
use Rattle.std.specs.Prelude.{Option, Some, None}
use Rattle.wall_tree.specs.wall_ray.specs.Nearest.{hit_of, Nearest, Answer}
use Rattle.wall_samples.specs.Samples.{e_6, polygon_centroid, inward, ray_of, faces_back, reading_of, readings_from}
use Rattle.wall_samples.specs.Work.{HitBelow, back_hit, taken}

-- ---- the ray
pub run_centroid : (s : List ℕ) (v p at first n : ℕ) (x : Vec3) → v ≡ vertex_count_of s → at ≡ entry_at v p → first ≡ first_at s at → n ≡ count_at_of s at →
    x ≡ centroid_of (corner_at s first) n → x ≡ polygon_centroid (part_of s) p
unfolding polygon_centroid polygon_corner part_of polygon_at corner_at
run_centroid s v p at first n x a i e q h = h ∙ rw (e, q, i, a)

pub ray_is : (t : Part) (p : ℕ) (c : Vec3) (x : Plane) (d a o : Vec3) → c ≡ polygon_centroid t p → x ≡ polygon_plane t p → d ≡ times x.normal (neg one) →
    a ≡ times d e_6 → o ≡ plus c a → ◌≡◌ {A = Ray} (record { origin = o; dir = d }) (ray_of t p)
unfolding ray_of inward
ray_is t p c x d a o ec ex ed ea eo = rw (eo, ea, ed, ec, ex)

-- the planes as they are kept
module _ (s : List ℕ) (at : Regions) (words : List ℕ) (reals : List Float) (h : Standing s at words reals) where
  pub plane_room : (q : ℕ) → q < at.polygons → 4 * q + 4 ≤ length (part 0 at.areas reals)
  plane_room q l = omega (arith, l, h.the_reals.planes.long)

  pub back_is : (p q : ℕ) (b : Bool) → p < at.polygons → q < at.polygons →
      b ≡ lt (dot_of (plane_at_of (part 0 at.areas reals) q).normal (plane_at_of (part 0 at.areas reals) p).normal) (neg half) → b ≡ faces_back (part_of s) p q
  unfolding faces_back
  back_is p q b lp lq e = e ∙ rw (h.the_reals.planes.each q lq, h.the_reals.planes.each p lp)

-- ---- the hit
pub hit_below : (t : Part) (r : Ray) (h : Option Hit) (n : ℕ) → n ≡ t.polygons → Answer t r h → HitBelow n h
unfolding HitBelow Nearest
hit_below t r (Some h) n e a = omega (arith, a.nearest.below, e)
hit_below t r None n e a = tt

pub hit_at : (n : ℕ) (x : Hit) (h : Option Hit) → HitBelow n h → h ≡ Some x → x.polygon < n
unfolding HitBelow
hit_at n x h b e = subst (HitBelow n) e b

pub hit_none : (n : ℕ) → HitBelow n None
unfolding HitBelow
hit_none n = tt

pub hit_back : (t : Part) (p : ℕ) (x : Hit) (b : Bool) → b ≡ faces_back t p x.polygon → b ≡ true → Some x ≡ back_hit t p (Some x)
unfolding back_hit
hit_back t p x b e h = rw (← e, h)

pub hit_away : (t : Part) (p : ℕ) (x : Hit) (b : Bool) → b ≡ faces_back t p x.polygon → b ≡ false → None ≡ back_hit t p (Some x)
unfolding back_hit
hit_away t p x b e h = rw (← e, h)

pub hit_nothing : (t : Part) (p : ℕ) → None ≡ back_hit t p None
unfolding back_hit
hit_nothing t p = refl

-- the hit that the code has is the ray's
pub cast_is : (t : Part) (p : ℕ) (r : Ray) (h x : Option Hit) → r ≡ ray_of t p → Answer t r h → x ≡ back_hit t p h → x ≡ back_hit t p (hit_of t (ray_of t p))
cast_is t p r h x e a k = k ∙ ap (back_hit t p) (a.scanned ∙ ap (hit_of t) e)

-- the readings of a polygon's ray are those of the hit that faces back
taken_if : (t : Part) (p : ℕ) (x : Hit) (b : Bool) → cond b (taken p (Some x)) [] ≡ taken p (cond b (Some x) None)
unfolding taken
taken_if t p x true = refl
taken_if t p x false = refl

taken_back : (t : Part) (p : ℕ) (h : Option Hit) → reading_of t p h ≡ taken p (back_hit t p h)
unfolding reading_of back_hit taken
taken_back t p (Some x) = taken_if t p x (faces_back t p x.polygon)
taken_back t p None = refl

pub readings_from_lem : (t : Part) (p : ℕ) (h : Option Hit) → h ≡ back_hit t p (hit_of t (ray_of t p)) → readings_from t p ≡ taken p h
unfolding readings_from
readings_from_lem t p h e = taken_back t p (hit_of t (ray_of t p)) ∙ ap (taken p) (sym e)
