-- "A part without polygons has none."
use mathlib.Core.Path.{◌≡◌, ap}
use mathlib.Core.List.{List, []}
use Prim.Native.Nat.{ℕ}
use Rattle.list_laws.specs.Below.{count_below}
use Rattle.list_groups.specs.Groups.{joined, over_pairs}
use Rattle.file_part.specs.Part.{Part}
use Rattle.solid_faces.specs.Faces.{face_count, faces_of}
use Rattle.solid_pairs.specs.Pairs.{over_face_pairs}
use Rattle.round_all.specs.Round.{rounds_to, rounds_of}
use Rattle.wall_pairs.specs.Walls.{over_walls}
use Rattle.fault_row.specs.declared.flaw.Flaw.{Flaw}
use Rattle.rule_corners.specs.Corners.{over_corners}
use Rattle.rule_corners.specs.Sharp.{sharp_corners}
use Rattle.rule_machining.specs.Machining.{thin_walls, flaws_of_rounds, rounds_flaws}
use Rattle.rule_machining.specs.All.{machining}

module _ (t : Part) (none : t.polygons ≡ 0) where
  no_faces : faces_of t ≡ 0
  unfolding faces_of face_count count_below
  no_faces = ap (face_count t) none

  no_pairs : (one other : ℕ → ℕ) (m : ℕ) (h : ℕ → ℕ → List ℕ → List Flaw) → over_face_pairs t one other m h ≡ []
  unfolding over_face_pairs over_pairs joined
  no_pairs one other m h = rw no_faces

  no_rounds : rounds_flaws t ≡ []
  unfolding rounds_flaws rounds_of rounds_to flaws_of_rounds
  no_rounds = rw no_faces

  pub machining_none : machining t ≡ []
  unfolding machining thin_walls over_walls sharp_corners over_corners
  machining_none = rw (no_pairs, no_rounds, no_pairs)
