-- `solid_segments::shared::put_sides` meets its contract.
use Rattle.file_part.specs.Part.{part_of}
use Rattle.solid_segments.specs.Work.{start_of, PlacedBelow}
use Rattle.solid_segments.proofs.shared.put_sides.Given as goal

abbrev pub invariant-loop-p : goal.invariant-loop-p
invariant-loop-p l = PlacedBelow (part_of l.file) l.mem (start_of l.file l.p)
