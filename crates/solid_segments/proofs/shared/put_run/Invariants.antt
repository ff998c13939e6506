-- `solid_segments::shared::put_run` meets its contract.
use Rattle.file_part.specs.Part.{part_of}
use Rattle.solid_segments.specs.Work.{PlacedBelow}
use Rattle.solid_segments.proofs.shared.put_run.Given as goal

abbrev pub invariant-loop-s : goal.invariant-loop-s
invariant-loop-s l = PlacedBelow (part_of l.file) l.mem l.s
