-- `solid_tours::pack::pack_edges` meets its contract: the places passed are packed.
use Rattle.solid_tours.specs.Work.{PackedPut}
use Rattle.solid_tours.proofs.pack.pack_edges.Given as goal

abbrev pub invariant-loop-j : goal.invariant-loop-j
invariant-loop-j l = PackedPut l.file l.at l.words l.initial.reals l.reals l.j
