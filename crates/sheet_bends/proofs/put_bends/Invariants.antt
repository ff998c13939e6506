-- `sheet_bends::put_bends` meets its contract: the bends of the faces that are passed are put.
use mathlib.Core.Path.{◌≡◌}
use lib.ListN.{length}
use Rattle.list_groups.specs.Groups.{passing}
use Rattle.file_part.specs.Part.{part_of}
use Rattle.sheet_bends.specs.Bends.{is_bend}
use Rattle.sheet_bends.specs.Work.{BendsTo}
use Rattle.sheet_bends.proofs.put_bends.Given as goal

abbrev pub invariant-loop-f : goal.invariant-loop-f
invariant-loop-f l = BendsTo (part_of l.file) l.thick l.at l.f l.initial.words l.words × (l.count ≡ length (passing (is_bend (part_of l.file) l.thick) l.f))
