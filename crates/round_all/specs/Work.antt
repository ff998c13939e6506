-- What the functions of this crate leave on the way, face by face. A reader may pass over it.
use Rattle.std.specs.Prelude.{◌≡◌, cond, List, ℕ, ◌+◌, eqb, Float, Option, Some, None}
use Rattle.std.specs.Float.Ieee.{lt}
use Rattle.std.specs.Float.{nan}
use Rattle.list_laws.specs.Region.{part, Outside}
use Rattle.math.specs.Vector as vector
use Rattle.file_part.specs.Part.{Part}
use Rattle.scratch.specs.declared.regions.Regions.{Regions}
use Rattle.round_hole.specs.Direction.{goes_round_of}
use Rattle.round_frame.specs.declared.frame.Frame.{Frame}
use Rattle.round_frame.specs.Frame.{measure_of}
use Rattle.round_frame.specs.Polygons.{extent_to, votes_to, directions_to}
use Rattle.round_frame.specs.Work.{put_measure_of}
use Rattle.round_all.specs.declared.round.RoundKind.{RoundKind}
use Rattle.round_all.specs.declared.round.RoundKind.TheVariants.{Convex, Concave, Hole}
use Rattle.round_all.specs.Kept.{round_kind, KeptKinds, KeptMeasures}

-- a cylinder about a frame: its kind, and its numbers
pub record CylinderPut (t : Part) (at : Regions) (f : ℕ) (a : Frame) (reals reals' : List Float) (r : RoundKind) : Type 0 where
  pub kind : r ≡ cond (lt (votes_to t f a t.polygons) vector.zero) (cond (goes_round_of (directions_to t f a t.polygons)) Hole Concave) Convex
  pub measures : part at.rounds at.directions reals' ≡ put_measure_of (part at.rounds at.directions reals) f (measure_of a (extent_to t f a t.polygons))
  pub kept : Outside nan at.rounds at.free reals reals'

-- the number of a kind, 0 for none, and back
abbrev pub kind_number : Option RoundKind → ℕ
kind_number None = 0
kind_number (Some Convex) = 1
kind_number (Some Concave) = 2
kind_number (Some Hole) = 3

abbrev pub kind_of : ℕ → RoundKind
kind_of n = cond (eqb n 3) Hole (cond (eqb n 2) Concave Convex)

-- any face
pub record FacePut (t : Part) (at : Regions) (f : ℕ) (reals reals' : List Float) (r : Option RoundKind) : Type 0 where
  pub kind : kind_number r ≡ round_kind t f
  pub measures : KeptMeasures t f (part at.rounds at.directions reals) → KeptMeasures t (f + 1) (part at.rounds at.directions reals')
  pub kept : Outside nan at.rounds at.free reals reals'

-- and its kind put as well
pub record StepPut (t : Part) (at : Regions) (f : ℕ) (words words' : List ℕ) (reals reals' : List Float) : Type 0 where
  pub kinds : KeptKinds t f (part at.kinds at.ranks words) → KeptKinds t (f + 1) (part at.kinds at.ranks words')
  pub measures : KeptMeasures t f (part at.rounds at.directions reals) → KeptMeasures t (f + 1) (part at.rounds at.directions reals')
  pub words_kept : Outside 0 at.kinds at.ranks words words'
  pub reals_kept : Outside nan at.rounds at.free reals reals'
