-- `sheet_thickness::put_distances` meets its contract.
use Rattle.file_part.specs.Part.{part_of}
use Rattle.sheet_thickness.proofs.DistanceLaws.{DistancesTo}
use Rattle.sheet_thickness.proofs.put_distances.Given as goal

abbrev pub invariant-loop-k : goal.invariant-loop-k
invariant-loop-k l = DistancesTo (part_of l.file) l.edges.at l.k l.initial.reals l.reals
