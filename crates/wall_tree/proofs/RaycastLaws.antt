-- What of the scratch a scan and a walk are lent.
use mathlib.Core.Path.{subst}
use mathlib.Core.List.{List}
use Prim.Native.Nat.{ℕ, ◌<◌}
use lib.Ieee.{Float}
use Rattle.list_laws.specs.Region.{part}
use Rattle.file_part.specs.Layout.{polygon_count_of}
use Rattle.file_part.specs.Part.{part_of}
use Rattle.solid_faces.specs.Faces.{Checked}
use Rattle.solid_faces.specs.Kept.{KeptPlanes}
use Rattle.solid_boxes.specs.Tree.{PartTree}
use Rattle.scratch.specs.declared.regions.Regions.{Regions}
use Rattle.scratch.specs.Regions.{scanned}
use Rattle.scratch.specs.Standing.{Standing}

module _ (s : List ℕ) (at : Regions) (words : List ℕ) (reals : List Float) (S : Standing s at words reals) where
  planes : KeptPlanes (part_of s) (polygon_count_of s) (part 0 at.areas reals)
  planes = subst (λ (k : ℕ). KeptPlanes (part_of s) k (part 0 at.areas reals)) S.placed.polygons S.the_reals.planes

  pub to_scan : Checked s × KeptPlanes (part_of s) (polygon_count_of s) (part 0 at.areas reals)
  to_scan = (S.placed.checked, planes)

  pub to_walk : scanned < at.polygons →
      Checked s × (KeptPlanes (part_of s) (polygon_count_of s) (part 0 at.areas reals)
      × PartTree (part_of s) (part at.boxes at.falling reals) (part at.tree at.sides words))
  to_walk many = (S.placed.checked, (planes, S.tree many))
