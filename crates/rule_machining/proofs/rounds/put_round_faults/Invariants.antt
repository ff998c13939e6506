-- `rule_machining::rounds::put_round_faults` meets its contract: the faults of the faces that are passed are put.
use Prim.Native.Nat.{◌+◌, ◌*◌, ◌≤◌}
use Rattle.file_part.specs.Part.{part_of}
use Rattle.rule_machining.proofs.RoundLaws.{RoundsPut}
use Rattle.rule_machining.proofs.rounds.put_round_faults.Given as goal

abbrev pub invariant-loop-face : goal.invariant-loop-face
invariant-loop-face l = RoundsPut (part_of l.file) l.face l.initial.k l.initial.cells l.cells l.initial.numbers l.numbers l.k × (l.k ≤ l.initial.k + 2 * l.face)
