-- `fault_merge::merge::merge` meets its contract: the faults before i have joined.
use mathlib.Core.Path.{◌≡◌}
use lib.ListN.{length}
use Rattle.file_part.specs.Part.{part_of}
use Rattle.fault_merge.specs.Merged.{Merged}
use Rattle.fault_merge.proofs.merge.merge.Given as goal

abbrev pub invariant-loop-i : goal.invariant-loop-i
invariant-loop-i l = (length l.work ≡ length l.initial.work) × Merged (part_of l.file) l.cells l.numbers l.work l.i
