-- The readings of a part: what each of them is, how many there are at most, and one of them read back from the scratch.
use mathlib.Core.Path.{◌≡◌, refl, sym, ap, ◌∙◌, subst}
use mathlib.Core.Bool.{Bool, true, false, cond}
use mathlib.Core.List.{List, [], ◌∷◌, ◌++◌}
use mathlib.Core.Logic.{◌⊎◌, inl, inr}
use Prim.Native.Nat.{ℕ, zero, suc, ◌+◌, ◌*◌, ◌-◌, ◌≤◌, ◌<◌}
use native.Mathlib.Omega.{arith}
use native.Mathlib.Numerals.{add-one}
use lib.ListN.{length, get_or, length-append, get_or-append}
use lib.Seq.{get_or-append-add}
use lib.Ieee.{Float, nan, le, add, binary64}
use Rattle.num_float.proofs.Tests.{lt_or_ge}
use Rattle.list_laws.specs.Region.{part, Outside}
use Rattle.math.specs.declared.Vec3.{Vec3}
use Rattle.math.specs.Vector as vector
use Rattle.file_part.specs.Part.{Part, part_of}
use Rattle.solid_polygon.specs.declared.polygon.Plane.{Plane}
use Rattle.solid_faces.specs.Faces.{faces_of, face_number, polygon_area, polygon_plane}
use Rattle.solid_faces.specs.Kept.{plane_at_of}
use Rattle.scratch.specs.declared.regions.Regions.{Regions}
use Rattle.scratch.specs.Regions.{Laid}
use Rattle.scratch.specs.Standing.{Standing}
use Rattle.scratch.proofs.StandingLaws.{placed_polygons}
use Rattle.scratch.proofs.WordsLaws.{face_at_lem}
use Rattle.wall_tree.specs.wall_ray.specs.declared.strike.Hit.{Hit}
use Rattle.std.specs.Prelude.{Option, Some, None}
use Rattle.wall_tree.specs.wall_ray.specs.Nearest.{hit_of}
use Rattle.wall_tree.specs.wall_ray.proofs.NearestLaws.{hit_struck}
use Rattle.wall_starts.specs.Starts.{total_area_of, wanted, ordered_polygons, step_of}
use Rattle.wall_starts.proofs.OrderLaws.{ordered_each, lengths_within}
use Rattle.wall_samples.specs.declared.sample.Sample.{Sample}
use Rattle.wall_samples.specs.declared.cast.Reading.{Reading}
use Rattle.wall_samples.specs.Samples.{e_6, polygon_centroid, ray_of, faces_back, reading_of, readings_from, picks_to, face_readings, readings_to, readings_of, sample_of}
use Rattle.wall_samples.specs.Stored.{none, reading, Readings}
use Rattle.wall_samples.proofs.StoredLaws.{stored_kept}
use Rattle.wall_samples.proofs.PicksLaws.{picks_none, picks_more, picks_past, readings_none, readings_more, readings_few}

-- ---- of all readings of a part
either : (t : Part) (P : List Reading → Type 0) (b : Bool) → P [] → P (readings_to t (faces_of t)) → P (cond b [] (readings_to t (faces_of t)))
either t P true x y = x
either t P false x y = y

-- each reading is its own ray's hit: what holds of every hit that faces back, of the ray of a polygon of the part, holds of each reading
module _ (t : Part) (Q : Reading → Type 0)
    (hits : (p : ℕ) (h : Hit) → p < t.polygons → hit_of t (ray_of t p) ≡ Some h → faces_back t p h.polygon ≡ true →
    Q (record { polygon = p; hit = h.polygon; thickness = add binary64 h.t e_6 })) where
  abbrev All : List Reading → Type 0
  All l = (k : ℕ) → k < length l → Q (reading l k)

  none_all : All []
  none_all k h = absurd (omega (arith, h))

  one_all : (x : Reading) → Q x → All (x ∷ [])
  one_all x h zero l = h
  one_all x h (suc k) l = absurd (omega (arith, l))

  append_all : (l m : List Reading) → All l → All m → All (l ++ m)
  append_all l m a b k h = go (lt_or_ge k (length l))
    where
      go : (k < length l) ⊎ (length l ≤ k) → Q (reading (l ++ m) k)
      go (inl below) = subst Q (sym (get_or-append l m none k below)) (a k below)
      go (inr above) =
          let place : length l + (k - length l) ≡ k = omega (arith, above) in
          let there : reading (l ++ m) k ≡ reading m (k - length l) = ap (reading (l ++ m)) (sym place) ∙ get_or-append-add l m (k - length l) none in
          subst Q (sym there) (b (k - length l) (omega (arith, above, h, length-append l m)))

  hit_all : (p : ℕ) (h : Option Hit) → p < t.polygons → hit_of t (ray_of t p) ≡ h → All (reading_of t p h)
  unfolding reading_of
  hit_all p (Some h) l e = go (faces_back t p h.polygon) refl
    where
      go : (b : Bool) → faces_back t p h.polygon ≡ b → All (cond b (record { polygon = p; hit = h.polygon; thickness = add binary64 h.t e_6 } ∷ []) [])
      go true back = one_all (record { polygon = p; hit = h.polygon; thickness = add binary64 h.t e_6 }) (hits p h l e back)
      go false back = none_all
  hit_all p None l e = none_all

  from_all : (p : ℕ) → p < t.polygons → All (readings_from t p)
  unfolding readings_from
  from_all p l = hit_all p (hit_of t (ray_of t p)) l refl

  picks_all : (order : List ℕ) (step n : ℕ) → ((i : ℕ) → i < length order → get_or order i 0 < t.polygons) → All (picks_to t order step n)
  picks_all order step zero below = subst All (sym (picks_none t order step)) none_all
  picks_all order step (suc n) below = subst (λ (k : ℕ). All (picks_to t order step k)) (add-one n) (go (picks_all order step n below) (lt_or_ge (n * step) (length order)))
    where
      go : All (picks_to t order step n) → (n * step < length order) ⊎ (length order ≤ n * step) → All (picks_to t order step (n + 1))
      go before (inl more) =
          subst All (sym (picks_more t order step n more))
          (append_all (picks_to t order step n) (readings_from t (get_or order (n * step) 0)) before (from_all (get_or order (n * step) 0) (below (n * step) more)))
      go before (inr past) = subst All (sym (picks_past t order step n past)) before

  face_all : (f : ℕ) → All (face_readings t f)
  unfolding face_readings
  face_all f = picks_all (ordered_polygons t f) (step_of (length (ordered_polygons t f)) (wanted t f)) (wanted t f) (λ i l. (ordered_each t f i l).below)

  to_all : (f : ℕ) → All (readings_to t f)
  to_all zero = subst All (sym (readings_none t)) none_all
  to_all (suc f) =
      subst (λ (k : ℕ). All (readings_to t k)) (add-one f)
      (subst All (sym (readings_more t f)) (append_all (readings_to t f) (face_readings t f) (to_all f) (face_all f)))

  pub readings_each : (k : ℕ) → k < length (readings_of t) → Q (reading (readings_of t) k)
  unfolding readings_of
  readings_each = either t All (le (total_area_of t) vector.zero) none_all (to_all (faces_of t))

-- both polygons of a reading are polygons of the part
pub record Inside (t : Part) (r : Reading) : Type 0 where
  pub polygon : r.polygon < t.polygons
  pub hit : r.hit < t.polygons

pub readings_inside : (t : Part) (k : ℕ) → k < length (readings_of t) → Inside t (reading (readings_of t) k)
readings_inside t = readings_each t (Inside t) (λ p h l e back. record { polygon = l; hit = (hit_struck t (ray_of t p) h e).0 })

-- no more than polygons
pub readings_most : (t : Part) → length (readings_of t) ≤ t.polygons
unfolding readings_of
readings_most t =
    either t (λ (l : List Reading). length l ≤ t.polygons) (le (total_area_of t) vector.zero) (omega arith)
    (omega (arith, readings_few t (faces_of t), lengths_within t (faces_of t)))

-- ---- in the scratch
-- they still stand there after changes past them
pub readings_kept : (t : Part) (at : Regions) (e f : ℕ) (words words' : List ℕ) (reals reals' : List Float) → Laid at → at.polygons ≡ t.polygons →
    Outside 0 at.order e words words' → Outside nan at.rounds f reals reals' → Readings t at words reals → Readings t at words' reals'
readings_kept t at e f words words' reals reals' laid is w r h =
    record { stored = stored_kept t at (readings_of t) words words' reals reals' laid (omega (arith, is, readings_most t)) w.below r.below h.stored }

-- reading k
sample_same : (t : Part) (r : Reading) (q h f g : ℕ) (thickness area : Float) (c : Vec3) (x : Plane) → q ≡ r.polygon → h ≡ r.hit → f ≡ face_number t q → g ≡ face_number t h →
    thickness ≡ r.thickness → area ≡ polygon_area t r.polygon → c ≡ polygon_centroid t q → x ≡ polygon_plane t q →
    ◌≡◌ {A = Sample} (record { face = f; hit = g; thickness = thickness; area = area; point = c; normal = x.normal }) (sample_of t r)
unfolding sample_of
sample_same t r q h f g thickness area c x eq eh ef eg et ea ec ex = rw (ef, eg, et, ea, ec, ex, eq, eh)

module _ (s : List ℕ) (at : Regions) (words : List ℕ) (reals : List Float) (g : Standing s at words reals) (h : Readings (part_of s) at words reals)
    (k : ℕ) (low : k < length (readings_of (part_of s))) where
  abbrev polygons : at.polygons ≡ (part_of s).polygons
  polygons = placed_polygons s at g.placed

  pub place_below : k < at.polygons
  place_below = omega (arith, low, readings_most (part_of s), polygons)

  pub start_below : (q : ℕ) → q ≡ get_or words (at.readings + k) 0 → q < at.polygons
  start_below q e = omega (arith, e, h.stored.polygons k low, (readings_inside (part_of s) k low).polygon, polygons)

  pub hit_below : (q : ℕ) → q ≡ get_or words (at.hits + k) 0 → q < at.polygons
  hit_below q e = omega (arith, e, h.stored.hits k low, (readings_inside (part_of s) k low).hit, polygons)

  pub sample_is : (q hit f other : ℕ) (c : Vec3) (x : Plane) → q ≡ get_or words (at.readings + k) 0 → hit ≡ get_or words (at.hits + k) 0 →
      f ≡ get_or words (at.faces + q) 0 → other ≡ get_or words (at.faces + hit) 0 → c ≡ polygon_centroid (part_of s) q → x ≡ plane_at_of (part 0 at.areas reals) q →
      ◌≡◌ {A = Sample}
      (record { face = f; hit = other; thickness = get_or reals (at.thickness + k) nan; area = get_or reals (at.weights + k) nan; point = c; normal = x.normal })
      (sample_of (part_of s) (reading (readings_of (part_of s)) k))
  sample_is q hit f other c x eq eh ef eg ec ex =
      sample_same (part_of s) (reading (readings_of (part_of s)) k) q hit f other _ _ c x (eq ∙ h.stored.polygons k low) (eh ∙ h.stored.hits k low)
      (ef ∙ face q (start_below q eq)) (eg ∙ face hit (hit_below hit eh)) (h.stored.thickness k low) (h.stored.areas k low) ec (ex ∙ g.the_reals.planes.each q (start_below q eq))
    where
      face : (p : ℕ) → p < at.polygons → get_or words (at.faces + p) 0 ≡ face_number (part_of s) p
      face p l = face_at_lem (part_of s) at words p g.placed.laid g.the_words polygons l
