-- `solid_segments::shared::put_owner` meets its contract.
use Rattle.file_part.specs.Part.{part_of}
use Rattle.solid_segments.specs.Work.{OwnsMore, start_of}
use Rattle.solid_segments.proofs.shared.put_owner.Given as goal

abbrev pub invariant-loop-s : goal.invariant-loop-s
invariant-loop-s l = OwnsMore (part_of l.file) l.initial.mem l.mem (start_of l.file l.p) l.s
