-- `obj_line::field::spaces` meets its contract: the spaces passed and those of the rest make up the whole.
use mathlib.Core.Path.{◌≡◌}
use Prim.Native.Nat.{◌+◌}
use lib.ListN.{drop}
use Rattle.obj_line.specs.Work.{spaces_of}
use Rattle.obj_line.proofs.field.spaces.Given as goal

abbrev pub invariant-loop-i : goal.invariant-loop-i
invariant-loop-i l = l.i + spaces_of (drop l.i l.s) ≡ spaces_of l.s
