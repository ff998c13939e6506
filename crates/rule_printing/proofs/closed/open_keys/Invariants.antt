-- `rule_printing::closed::open_keys` meets its contract: the open keys of the sides that are passed are counted.
use mathlib.Core.Path.{◌≡◌}
use Rattle.list_laws.specs.Below.{count_below}
use Rattle.file_part.specs.Part.{part_of}
use Rattle.rule_printing.specs.Closed.{is_open}
use Rattle.rule_printing.proofs.closed.open_keys.Given as goal

abbrev pub invariant-loop-s : goal.invariant-loop-s
invariant-loop-s l = l.k ≡ count_below l.s (is_open (part_of l.file))
