-- `rule_printing::hollows::put_hollows` meets its contract: the faults of the bodies that are passed are put.
use Rattle.file_part.specs.Part.{part_of}
use Rattle.rule_printing.proofs.HollowLaws.{HollowsTo}
use Rattle.rule_printing.proofs.hollows.put_hollows.Given as goal

abbrev pub invariant-loop-b : goal.invariant-loop-b
invariant-loop-b l = HollowsTo (part_of l.file) l.b l.initial.k l.initial.cells l.cells l.initial.numbers l.numbers l.k
