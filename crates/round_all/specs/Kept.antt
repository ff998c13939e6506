-- What the scratch holds of a part's rounds, by the part alone. Definitions only.
use Rattle.std.specs.Prelude.{◌≡◌, true, cond, List, ℕ, ◌*◌, ◌≤◌, ◌<◌, length, get_or, Float}
use Rattle.list_laws.specs.Region.{part}
use Rattle.file_part.specs.Part.{Part}
use Rattle.solid_faces.specs.Faces.{faces_of}
use Rattle.scratch.specs.declared.regions.Regions.{Regions}
use Rattle.round_frame.specs.Measure.{measure_at}
use Rattle.round_all.specs.Round.{is_round, face_measure, is_concave, is_hole}

-- what each face is: 0 no round, 1 convex, 2 concave and no hole, 3 a hole
unfoldable pub round_kind : Part → ℕ → ℕ
round_kind t f = cond (is_round t f) (cond (is_concave t f) (cond (is_hole t f) 3 2) 1) 0

-- of each face below n
pub record KeptKinds (t : Part) (n : ℕ) (l : List ℕ) : Type 0 where
  pub each : (f : ℕ) → f < n → get_or l f 0 ≡ round_kind t f
  pub long : n ≤ length l

-- axis, length and centre of each face below n that is a round; those of the others are not said
pub record KeptMeasures (t : Part) (n : ℕ) (l : List Float) : Type 0 where
  pub each : (f : ℕ) → f < n → is_round t f ≡ true → measure_at l f ≡ face_measure t f
  pub long : 7 * n ≤ length l

-- the rounds stand in the scratch
pub record Rounds (t : Part) (at : Regions) (words : List ℕ) (reals : List Float) : Type 0 where
  pub kinds : KeptKinds t (faces_of t) (part at.kinds at.ranks words)
  pub measures : KeptMeasures t (faces_of t) (part at.rounds at.directions reals)
