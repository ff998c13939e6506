-- `probe::cast::gablemadder_raycast` meets its contract.
use Rattle.file_part.specs.Part.{part_of}
use Rattle.probe.specs.Cast.{Cast}
use Rattle.probe.proofs.cast.gablemadder_raycast.Given as goal

abbrev pub invariant-loop-k : goal.invariant-loop-k
invariant-loop-k l = Cast (part_of l.file) l.rays l.k l.initial.polygons l.polygons l.initial.times l.times
