-- `solid_segments::pack::pack_sides` meets its contract.
use Rattle.solid_segments.specs.Work.{Packed}
use Rattle.solid_segments.proofs.pack.pack_sides.Given as goal

abbrev pub invariant-loop-s : goal.invariant-loop-s
invariant-loop-s l = Packed l.s l.initial.mem l.mem
