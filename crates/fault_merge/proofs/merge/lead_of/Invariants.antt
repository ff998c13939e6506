-- `fault_merge::merge::lead_of` meets its contract: none that is passed shares the line.
use mathlib.Core.Path.{◌≡◌}
use mathlib.Core.Bool.{false}
use Prim.Native.Nat.{ℕ, ◌<◌}
use Rattle.file_part.specs.Part.{part_of}
use Rattle.fault_lines.specs.Line.{same_heading_of}
use Rattle.fault_merge.specs.Rows.{heading_at}
use Rattle.fault_merge.proofs.merge.lead_of.Given as goal

abbrev pub invariant-loop-j : goal.invariant-loop-j
invariant-loop-j l = (k : ℕ) → k < l.j → same_heading_of (heading_at (part_of l.file) l.cells l.numbers k) (heading_at (part_of l.file) l.cells l.numbers l.i) ≡ false
