-- `rule_flanges::legs::is_seen` meets its contract: no leg that is passed is along.
use mathlib.Core.Path.{◌≡◌}
use mathlib.Core.Bool.{false}
use Rattle.file_part.specs.Part.{part_of}
use Rattle.rule_flanges.specs.Flanges.{is_seen}
use Rattle.rule_flanges.specs.Work.{legs_in}
use Rattle.rule_flanges.proofs.legs.is_seen.Given as goal

abbrev pub invariant-loop-i : goal.invariant-loop-i
invariant-loop-i l = is_seen (part_of l.file) (legs_in l.legs l.i) l.g ≡ false
