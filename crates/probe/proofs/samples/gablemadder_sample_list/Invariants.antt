-- `probe::samples::gablemadder_sample_list` meets its contract.
use Rattle.file_part.specs.Part.{part_of}
use Rattle.probe.proofs.SampleLaws.{Listed}
use Rattle.probe.proofs.samples.gablemadder_sample_list.Given as goal

abbrev pub invariant-loop-k : goal.invariant-loop-k
invariant-loop-k l = Listed (part_of l.file) l.k l.initial.faces l.faces l.initial.numbers l.numbers
