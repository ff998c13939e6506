-- `solid_segments::shared::put_owners` meets its contract.
use Rattle.file_part.specs.Part.{part_of}
use Rattle.solid_segments.specs.Work.{start_of, OwnsMore}
use Rattle.solid_segments.proofs.shared.put_owners.Given as goal

abbrev pub invariant-loop-p : goal.invariant-loop-p
invariant-loop-p l =
    OwnsMore (part_of l.file) l.initial.mem l.mem (start_of l.file 0) (start_of l.file l.p)
