-- A round read back from the scratch.
use mathlib.Core.Path.{◌≡◌, refl, sym, ◌∙◌}
use mathlib.Core.Bool.{Bool, true, false, not, ◌&&◌, cond}
use mathlib.Core.List.{List, [], ◌∷◌, ◌++◌}
use Prim.Native.Nat.{ℕ, ◌+◌, ◌<◌}
use native.Mathlib.Omega.{arith}
use native.Mathlib.Numerals.{add-one}
use lib.Dec.{eqb, ltb}
use lib.ListN.{get_or}
use lib.Ieee.{Float}
use Rattle.list_laws.specs.Region.{part}
use Rattle.list_laws.proofs.Regions.{part_place}
use Rattle.math.specs.declared.Vec3.{Vec3}
use Rattle.file_part.specs.declared.read.SurfaceKind.{SurfaceKind}
use Rattle.file_part.specs.Part.{Part}
use Rattle.solid_faces.specs.Faces.{faces_of}
use Rattle.scratch.specs.declared.regions.Regions.{Regions}
use Rattle.scratch.specs.Regions.{Laid}
use Rattle.round_frame.specs.declared.measure.Measure.{Measure}
use Rattle.round_all.specs.declared.round.Round.{Round}
use Rattle.round_all.specs.Round.{face_surface, origin_of, radius_of, is_round, face_measure, is_concave, directions_of, is_hole, round_of, rounds_to}
use Rattle.round_all.specs.Kept.{round_kind, Rounds}
use denote.Enum.Bare.{sameb}
use Rattle.round_all.specs.contracts.round.RoundKind as round-kind
use Rattle.round_all.specs.declared.round.RoundKind.{RoundKind}
use Rattle.round_all.specs.declared.round.RoundKind.TheVariants.{Convex, Hole}
use Rattle.round_all.specs.Work.{kind_of}
use Rattle.round_frame.specs.Measure.{measure_at}
use Rattle.round_hole.specs.Direction.{goes_round_of}

-- ---- what the kinds say
above_one : (b g : Bool) → ltb 1 (cond b (cond (b && g) 3 2) 1) ≡ b
above_one true true = refl
above_one true false = refl
above_one false g = refl

is_three : (b g : Bool) → eqb (cond b (cond (b && g) 3 2) 1) 3 ≡ (b && g)
is_three true true = refl
is_three true false = refl
is_three false g = refl

pub kind_concave : (t : Part) (f : ℕ) → is_round t f ≡ true → ltb 1 (round_kind t f) ≡ is_concave t f
unfolding round_kind is_hole
kind_concave t f h = rw (h, above_one (is_concave t f) (goes_round_of (directions_of t f)))

pub kind_hole : (t : Part) (f : ℕ) → is_round t f ≡ true → eqb (round_kind t f) 3 ≡ is_hole t f
unfolding round_kind is_hole
kind_hole t f h = rw (h, is_three (is_concave t f) (goes_round_of (directions_of t f)))

-- a kind that is not 0 is that of a round
pub kind_round : (t : Part) (f : ℕ) → (round_kind t f ≡ 0 → ⊥) → is_round t f ≡ true
unfolding round_kind
kind_round t f h = go (is_round t f) refl
  where
    go : (b : Bool) → is_round t f ≡ b → is_round t f ≡ true
    go true e = e
    go false e = absurd (h (rw (e)))

-- ---- the places of face f
module _ (t : Part) (at : Regions) (words : List ℕ) (reals : List Float) (f : ℕ) (laid : Laid at) (kept : Rounds t at words reals) (low : f < faces_of t) where
  pub kind_at : f < at.polygons → get_or words (at.kinds + f) 0 ≡ round_kind t f
  kind_at below = sym (part_place at.kinds at.ranks words 0 f (omega (arith, below, laid))) ∙ kept.kinds.each f low

  pub measure_kept : is_round t f ≡ true → measure_at (part at.rounds at.directions reals) f ≡ face_measure t f
  measure_kept round = kept.measures.each f low round

-- ---- all of it
-- is k a kind c
abbrev is_kind : RoundKind → RoundKind → Bool
is_kind k c = sameb round-kind.the_type k c

concave_read : (b g : Bool) → not (is_kind (kind_of (cond b (cond (b && g) 3 2) 1)) Convex) ≡ b
concave_read true true = refl
concave_read true false = refl
concave_read false g = refl

hole_read : (b g : Bool) → is_kind (kind_of (cond b (cond (b && g) 3 2) 1)) Hole ≡ (b && g)
hole_read true true = refl
hole_read true false = refl
hole_read false g = refl

kept_concave : (t : Part) (f : ℕ) → is_round t f ≡ true → not (is_kind (kind_of (round_kind t f)) Convex) ≡ is_concave t f
unfolding round_kind is_hole
kept_concave t f h = rw (h, concave_read (is_concave t f) (goes_round_of (directions_of t f)))

kept_hole : (t : Part) (f : ℕ) → is_round t f ≡ true → is_kind (kind_of (round_kind t f)) Hole ≡ is_hole t f
unfolding round_kind is_hole
kept_hole t f h = rw (h, hole_read (is_concave t f) (goes_round_of (directions_of t f)))

pub round_read : (t : Part) (f number : ℕ) (k : RoundKind) (x : SurfaceKind) (concave hole : Bool) (o : Vec3) (radius : Float) (m : Measure) → is_round t f ≡ true →
    number ≡ round_kind t f → k ≡ kind_of number → concave ≡ not (sameb round-kind.the_type k Convex) → hole ≡ sameb round-kind.the_type k Hole →
    x ≡ face_surface t f → o ≡ origin_of x → radius ≡ radius_of x → m ≡ face_measure t f →
    ◌≡◌ {A = Round} (record { face = f; origin = o; axis = m.axis; radius = radius; concave = concave; hole = hole; length = m.length; centre = m.centre }) (round_of t f)
unfolding round_of
round_read t f number k x concave hole o radius m round en ek ec eh ex eo er em = rw (ec, eh, ek, en, eo, er, ex, em, kept_concave t f round, kept_hole t f round)

-- ---- the rounds of a part, one face more
pub rounds_more : (t : Part) (f : ℕ) → is_round t f ≡ true → rounds_to t (f + 1) ≡ rounds_to t f ++ (round_of t f ∷ [])
unfolding rounds_to
rounds_more t f h = rw (add-one, h)

pub rounds_skip : (t : Part) (f : ℕ) → is_round t f ≡ false → rounds_to t (f + 1) ≡ rounds_to t f
unfolding rounds_to
rounds_skip t f h = rw (add-one, h)
