-- `probe::open::gablemadder_open_towards` meets its contract.
use Rattle.file_part.specs.Part.{part_of}
use Rattle.probe.specs.Open.{Open}
use Rattle.probe.proofs.open.gablemadder_open_towards.Given as goal

abbrev pub invariant-loop-k : goal.invariant-loop-k
invariant-loop-k l = Open (part_of l.file) l.rays l.k l.initial.cells l.cells
