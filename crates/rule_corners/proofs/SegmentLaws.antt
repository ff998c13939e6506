-- One segment, in the words of what the code calls.
use mathlib.Core.Path.{◌≡◌, refl, sym, ap, ◌∙◌}
use mathlib.Core.Bool.{Bool, true, false, not, ◌&&◌}
use mathlib.Core.Logic.{◌⊎◌, inl, inr}
use mathlib.Core.List.{List}
use Prim.Native.Nat.{ℕ, ◌+◌, ◌-◌, ◌*◌, ◌≤◌, ◌<◌}
use native.Mathlib.Omega.{arith}
use lib.Dec.{eqb, ltb, leb}
use lib.Ieee.{Float, lt}
use denote.Enum.Declared.{tag_of}
use borrow.Author.Tests.{ltb-true, leb-true}
use Rattle.num_float.proofs.Tests.{and_left, and_right, and_false_left, and_false_right}
use Rattle.math.specs.declared.Vec3.{Vec3}
use Rattle.math.specs.Vector.{plus, minus, times, dot_of, length_of}
use Rattle.file_field.specs.Field.{vec_at_of}
use Rattle.file_part.specs.declared.read.SurfaceKind.{SurfaceKind}
use Rattle.file_part.specs.declared.read.SurfaceKind.TheVariants.{Plane, Cylinder, Revolved, Other}
use Rattle.file_part.specs.contracts.read.SurfaceKind as surface-kind
use Rattle.file_part.specs.Layout.{vertex_count_of, polygon_count_of, entry_at}
use Rattle.file_part.specs.Part.{Part, surface_at, part_of}
use Rattle.file_part.proofs.PartLaws.{part_polygons, part_vertex, part_surface}
use Rattle.solid_polygon.specs.declared.polygon.Plane as plane
use Rattle.solid_polygon.specs.Polygon.{half}
use Rattle.solid_faces.specs.Faces.{polygon_plane}
use Rattle.solid_segments.specs.Sides.{owner_of, to_of}
use Rattle.solid_edges.specs.declared.edge.Edge.{Edge}
use Rattle.solid_edges.specs.Edges.{pair_in, is_two, face_of_side, face_beyond, is_edge_of}
use Rattle.solid_edges.specs.Work.{EdgeIs}
use Rattle.wall_ray.specs.Strike.{e_9}
use Rattle.wall_samples.specs.Samples.{polygon_centroid}
use Rattle.rule_corners.specs.declared.segment.Sides.{Sides}
use Rattle.std.proofs.Common.{Some, None}
use Rattle.rule_corners.specs.Corners.{ninety_nine, polygon_beyond, is_plane, on_plane, mid_of, is_concave, is_corner, segment_length}
use Rattle.rule_corners.specs.Work.{SidesOf, FoundIs}

-- ---- the two polygons
-- the place of a surface among the variants, which is what a `match` knows; a plane's is 0
abbrev place : SurfaceKind → ℕ
place x = tag_of surface-kind.the_type x

pub plane_is : (x : SurfaceKind) → place x ≡ 0 → true ≡ is_plane x
unfolding is_plane
plane_is Plane h = refl
plane_is (Cylinder o d r) h = absurd (omega (arith, h))
plane_is (Revolved o d) h = absurd (omega (arith, h))
plane_is Other h = absurd (omega (arith, h))

none_of : (k : ℕ) → (k ≡ 1) ⊎ ((k ≡ 2) ⊎ (k ≡ 3)) → k ≡ 0 → ⊥
none_of k (inl e) h = omega (arith, e, h)
none_of k (inr (inl e)) h = omega (arith, e, h)
none_of k (inr (inr e)) h = omega (arith, e, h)

pub other_is : (x : SurfaceKind) → (place x ≡ 1) ⊎ ((place x ≡ 2) ⊎ (place x ≡ 3)) → false ≡ is_plane x
unfolding is_plane
other_is Plane h = absurd (none_of _ h refl)
other_is (Cylinder o d r) h = refl
other_is (Revolved o d) h = refl
other_is Other h = refl

pub surface_is : (s : List ℕ) (v p at : ℕ) (x : SurfaceKind) (b : Bool) → v ≡ vertex_count_of s → at ≡ entry_at v p → x ≡ surface_at s at → b ≡ is_plane x → b ≡ on_plane (part_of s) p
unfolding on_plane
surface_is s v p at x b ev ea ex eb = eb ∙ ap is_plane (ex ∙ ap (surface_at s) (ea ∙ ap (λ (k : ℕ). entry_at k p) ev) ∙ sym (part_surface s p))

-- an edge has a second side
pub second_side : (t : Part) (s q : ℕ) → is_edge_of t s ≡ true → q ≡ pair_in t s → (1 ≤ q) × (q - 1 < t.vertices)
unfolding is_edge_of is_two
second_side t s q h e =
    let two = and_left (ltb (s + 1) (pair_in t s) && leb (pair_in t s) t.vertices) (not (eqb (face_of_side t s) (face_beyond t s))) h in
    let above = ltb-true (s + 1) (pair_in t s) (and_left (ltb (s + 1) (pair_in t s)) (leb (pair_in t s) t.vertices) two) in
    let within = leb-true (pair_in t s) t.vertices (and_right (ltb (s + 1) (pair_in t s)) (leb (pair_in t s) t.vertices) two) in
    (omega (arith, e, above), omega (arith, e, above, within))

pub sides_are : (s : List ℕ) (i q a b : ℕ) → q ≡ pair_in (part_of s) i → a ≡ owner_of (part_of s) i → a < polygon_count_of s → b ≡ owner_of (part_of s) (q - 1) →
    b < polygon_count_of s → SidesOf (part_of s) i (record { polygon = a; beyond = b })
unfolding polygon_beyond
sides_are s i q a b e ea la eb lb =
    record {
      polygon_is = ea;
      beyond_is = eb ∙ ap (λ (k : ℕ). owner_of (part_of s) (k - 1)) e;
      polygon_below = omega (arith, la, part_polygons s);
      beyond_below = omega (arith, lb, part_polygons s);
    }

-- ---- its ends
at_vertex : (s : List ℕ) (i j : ℕ) (a : Vec3) → j ≡ i → a ≡ vec_at_of s (24 * j) → a ≡ (part_of s).vertex i
at_vertex s i j a e h = h ∙ sym (part_vertex s j) ∙ ap (λ (k : ℕ). (part_of s).vertex k) e

ends : (s : List ℕ) (i to : ℕ) (a b : Vec3) → to ≡ to_of (part_of s) i → a ≡ vec_at_of s (24 * i) → b ≡ vec_at_of s (24 * to) →
    plus a b ≡ plus ((part_of s).vertex i) ((part_of s).vertex (to_of (part_of s) i))
ends s i to a b e ea eb =
    ap (λ (x : Vec3). plus x b) (at_vertex s i i a refl ea) ∙ ap (plus ((part_of s).vertex i)) (at_vertex s (to_of (part_of s) i) to b e eb)

pub mid_is : (s : List ℕ) (i to : ℕ) (a b c r : Vec3) → to ≡ to_of (part_of s) i → a ≡ vec_at_of s (24 * i) → b ≡ vec_at_of s (24 * to) → c ≡ plus a b → r ≡ times c half →
    r ≡ mid_of (part_of s) i
unfolding mid_of
mid_is s i to a b c r e ea eb ec er =
    er ∙ ap (λ (x : Vec3). times x half) (ec ∙ ends s i to a b e ea eb)

pub length_is : (s : List ℕ) (i to : ℕ) (a b c : Vec3) (r : Float) → to ≡ to_of (part_of s) i → a ≡ vec_at_of s (24 * to) → b ≡ vec_at_of s (24 * i) → c ≡ minus a b →
    r ≡ length_of c → r ≡ segment_length (part_of s) i
unfolding segment_length
length_is s i to a b c r e ea eb ec er =
    er ∙ ap length_of (ec ∙ ap (λ (x : Vec3). minus x b) (at_vertex s (to_of (part_of s) i) to a e ea) ∙ ap (minus ((part_of s).vertex (to_of (part_of s) i))) (at_vertex s i i b refl eb))

-- ---- concave
module _ (t : Part) (of : Sides) (mid : Vec3) (x y : plane.Plane) (ex : x ≡ polygon_plane t of.polygon) (ey : y ≡ polygon_plane t of.beyond) (d : Float)
    (ed : d ≡ dot_of x.normal y.normal) where
  pub level : lt d ninety_nine ≡ false → false ≡ is_concave t of.polygon of.beyond mid
  unfolding is_concave
  level h =
      sym (and_false_left (lt (dot_of (polygon_plane t of.polygon).normal (polygon_plane t of.beyond).normal) ninety_nine) (lt e_9 (dot_of (minus (polygon_centroid t of.beyond) mid) (polygon_plane t of.polygon).normal)) (rw (← ex, ← ey, ← ed) h))

  pub leaning : (c m : Vec3) (r : Float) → lt d ninety_nine ≡ true → c ≡ polygon_centroid t of.beyond → m ≡ minus c mid → r ≡ dot_of m x.normal →
      lt e_9 r ≡ is_concave t of.polygon of.beyond mid
  unfolding is_concave
  leaning c m r h ec em er = rw (← ex, ← ey, ← ed, h, ← ec, ← em, ← er)

-- ---- the corner
module _ (t : Part) (s : ℕ) (of : Sides) (h : SidesOf t s of) (edge : is_edge_of t s ≡ true) where
  abbrev far : Bool
  far = on_plane t (polygon_beyond t s) && is_concave t (owner_of t s) (polygon_beyond t s) (mid_of t s)

  pub near_curved : (b : Bool) → b ≡ on_plane t of.polygon → b ≡ false → false ≡ is_corner t s
  unfolding is_corner
  near_curved b e f =
      sym (and_false_right (is_edge_of t s) _ (and_false_left (on_plane t (owner_of t s)) far (rw (← h.polygon_is) (sym e ∙ f))))

  module _ (a : Bool) (ea : a ≡ on_plane t of.polygon) (fa : a ≡ true) where
    pub far_curved : (b : Bool) → b ≡ on_plane t of.beyond → b ≡ false → false ≡ is_corner t s
    unfolding is_corner
    far_curved b e f =
        sym (and_false_right (is_edge_of t s) _ (and_false_right (on_plane t (owner_of t s)) _
        (and_false_left (on_plane t (polygon_beyond t s)) (is_concave t (owner_of t s) (polygon_beyond t s) (mid_of t s)) (rw (← h.beyond_is) (sym e ∙ f)))))

    pub both_flat : (b r : Bool) (mid : Vec3) → b ≡ on_plane t of.beyond → b ≡ true → mid ≡ mid_of t s → r ≡ is_concave t of.polygon of.beyond mid → r ≡ is_corner t s
    unfolding is_corner
    both_flat b r mid e f em er = er ∙ rw (edge, ← h.polygon_is, ← h.beyond_is, ← ea, fa, ← e, f, em)

-- ---- what is found
pub found_no_edge : (t : Part) (s : ℕ) → EdgeIs t s None → FoundIs t s None
unfolding EdgeIs FoundIs is_corner
found_no_edge t s h = and_false_left (is_edge_of t s) _ h

module _ (t : Part) (s : ℕ) (e : Edge) (h : EdgeIs t s (Some e)) where
  pub edge_is : is_edge_of t s ≡ true
  unfolding EdgeIs
  edge_is = h.0

  pub found_no_corner : (b : Bool) → b ≡ is_corner t s → b ≡ false → FoundIs t s None
  unfolding FoundIs
  found_no_corner b q f = sym q ∙ f

  pub found_corner : (b : Bool) → b ≡ is_corner t s → b ≡ true → FoundIs t s (Some (record { near = e.near; far = e.beyond }))
  unfolding EdgeIs FoundIs
  found_corner b q f = (sym q ∙ f, h.1, h.2)
