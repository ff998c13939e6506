-- The surfaces by their variants, and a face's surface and plane in the words of what the code calls.
use mathlib.Core.Path.{◌≡◌, refl, ap, ◌∙◌}
use mathlib.Core.Bool.{Bool, true, false}
use mathlib.Core.Logic.{◌⊎◌, inl, inr}
use mathlib.Core.List.{List}
use Prim.Native.Nat.{ℕ, ◌+◌, ◌*◌, ◌^◌, ◌≤◌, ◌<◌}
use native.Mathlib.Omega.{arith}
use lib.ListN.{length, get_or}
use lib.Ieee.{Float}
use denote.Enum.Declared.{tag_of}
use Rattle.list_laws.specs.Region.{part}
use Rattle.file_part.specs.declared.read.SurfaceKind.{SurfaceKind}
use Rattle.file_part.specs.declared.read.SurfaceKind.TheVariants.{Plane, Cylinder, Revolved, Other}
use Rattle.file_part.specs.contracts.read.SurfaceKind as surface-kind
use Rattle.file_part.specs.Layout.{entry_at}
use Rattle.file_part.specs.Part.{surface_at, part_of}
use Rattle.solid_polygon.specs.declared.polygon.Plane as plane
use Rattle.solid_faces.specs.Faces.{faces_of, first_polygon, polygon_plane}
use Rattle.solid_faces.specs.Kept.{plane_at_of}
use Rattle.solid_faces.proofs.FaceLaws.{first_polygon_begins}
use Rattle.solid_faces.proofs.BodyLaws.{EntryRoom, checked_faces}
use Rattle.scratch.specs.declared.regions.Regions.{Regions}
use Rattle.scratch.specs.Standing.{Standing}
use Rattle.scratch.proofs.StandingLaws.{placed_polygons}
use Rattle.scratch.proofs.WordsLaws.{first_at_lem}
use Rattle.round_all.proofs.PutLaws.{surface_is, first_entry, face_low}
use Rattle.solid_flat.specs.Flat.{is_plane, is_flat_face, face_normal}

-- the place of a surface among the variants, which is what a `match` knows; a plane's is 0
abbrev place : SurfaceKind → ℕ
place x = tag_of surface-kind.the_type x

pub plane_is : (x : SurfaceKind) → place x ≡ 0 → true ≡ is_plane x
unfolding is_plane
plane_is Plane h = refl
plane_is (Cylinder o d r) h = absurd (omega (arith, h))
plane_is (Revolved o d) h = absurd (omega (arith, h))
plane_is Other h = absurd (omega (arith, h))

none_of : (k : ℕ) → (k ≡ 1) ⊎ ((k ≡ 2) ⊎ (k ≡ 3)) → k ≡ 0 → ⊥
none_of k (inl e) h = omega (arith, e, h)
none_of k (inr (inl e)) h = omega (arith, e, h)
none_of k (inr (inr e)) h = omega (arith, e, h)

pub other_is : (x : SurfaceKind) → (place x ≡ 1) ⊎ ((place x ≡ 2) ⊎ (place x ≡ 3)) → false ≡ is_plane x
unfolding is_plane
other_is Plane h = absurd (none_of _ h refl)
other_is (Cylinder o d r) h = refl
other_is (Revolved o d) h = refl
other_is Other h = refl

-- ---- a face whose body stands in the scratch
module _ (s : List ℕ) (at : Regions) (words : List ℕ) (reals : List Float) (h : Standing s at words reals) (f : ℕ) (l : f < faces_of (part_of s)) where
  -- the place of its first polygon
  pub first_place : at.firsts + f < length words
  first_place = omega (arith, h.words_room, h.placed.laid, face_low s at f h.placed l)

  pub first_fits : at.firsts + f < 2 ^ 64
  first_fits = omega (arith, h.placed.laid, face_low s at f h.placed l)

  module _ (q : ℕ) (e : q ≡ get_or words (at.firsts + f) 0) where
    pub first_is : q ≡ first_polygon (part_of s) f
    first_is = e ∙ first_at_lem (part_of s) at words f h.placed.laid h.the_words (placed_polygons s at h.placed) l (checked_faces s h.placed.checked)

    pub entry_there : EntryRoom s at.vertices q
    entry_there = first_entry s at q f h.placed first_is l

    pub flat_is : (i : ℕ) (x : SurfaceKind) (b : Bool) → i ≡ entry_at at.vertices q → x ≡ surface_at s i → b ≡ is_plane x → b ≡ is_flat_face (part_of s) f
    unfolding is_flat_face
    flat_is i x b ei ex eb = eb ∙ ap is_plane (surface_is s at.vertices q f i x h.placed.vertices first_is ei ex)

    first_low : q < at.polygons
    first_low = omega (arith, first_is, (first_polygon_begins (part_of s) f l).below, placed_polygons s at h.placed)

    pub plane_room : 4 * q + 4 ≤ length (part 0 at.areas reals)
    plane_room = omega (arith, first_low, h.the_reals.planes.long)

    pub normal_is : (p : plane.Plane) → p ≡ plane_at_of (part 0 at.areas reals) q → p.normal ≡ face_normal (part_of s) f
    unfolding face_normal
    normal_is p ep = ap (λ (x : plane.Plane). x.normal) (ep ∙ h.the_reals.planes.each q first_low ∙ ap (polygon_plane (part_of s)) first_is)
