-- `round_all::round::put_rounds` meets its contract.
use lib.Ieee.{nan}
use Rattle.list_laws.specs.Region.{part, Outside}
use Rattle.file_part.specs.Part.{part_of}
use Rattle.round_all.specs.Kept.{KeptKinds, KeptMeasures}
use Rattle.round_all.proofs.round.put_rounds.Given as goal

abbrev pub invariant-loop-f : goal.invariant-loop-f
invariant-loop-f l = Outside 0 l.at.kinds l.at.ranks l.initial.words l.words × Outside nan l.at.rounds l.at.free l.initial.reals l.reals × KeptKinds (part_of l.file) l.f (part l.at.kinds l.at.ranks l.words) × KeptMeasures (part_of l.file) l.f (part l.at.rounds l.at.directions l.reals)
