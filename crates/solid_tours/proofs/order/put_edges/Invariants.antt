-- `solid_tours::order::put_edges` meets its contract: the edges of the sides passed are kept.
use lib.Ieee.{nan}
use Rattle.list_laws.specs.Region.{Outside}
use Rattle.file_part.specs.Part.{part_of}
use Rattle.solid_tours.specs.Work.{EdgesTo}
use Rattle.solid_tours.proofs.order.put_edges.Given as goal

abbrev pub invariant-loop-s : goal.invariant-loop-s
invariant-loop-s l = EdgesTo (part_of l.file) l.at l.s l.m l.words l.reals × Outside 0 l.at.items l.at.sorted l.initial.words l.words × Outside nan l.at.directions l.at.free l.initial.reals l.reals
