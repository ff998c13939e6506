-- `wall_tree::walk::is_clear` meets its contract.
use mathlib.Core.Path.{◌≡◌}
use Prim.Native.Nat.{◌≤◌, ◌-◌}
use Rattle.file_part.specs.Part.{part_of}
use Rattle.solid_boxes.specs.Tree.{start_at, PartTree}
use Rattle.std.specs.Prelude.{None}
use Rattle.wall_tree.specs.Work.{Kept}
use Rattle.wall_tree.proofs.walk.is_clear.Given as goal

abbrev pub invariant-loop-a : goal.invariant-loop-a
invariant-loop-a l = ((W : PartTree (part_of l.file) l.boxes l.words) → l.j ≤ W.nodes) × ((l.a ≡ start_at l.words l.polygons l.j) × Kept (part_of l.file) l.ray l.words l.a None)

abbrev pub decreases-loop-a : goal.decreases-loop-a
decreases-loop-a l = l.polygons - l.j
