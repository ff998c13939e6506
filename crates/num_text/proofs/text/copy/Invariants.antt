-- `num_text::text::copy` meets its contract. The invariant: the bytes before i are written.
use Prim.Native.Nat.{◌+◌}
use lib.ListN.{take}
use Rattle.num_text.specs.Put.{Put}
use Rattle.num_text.proofs.text.copy.Given as goal

abbrev pub invariant-loop-i : goal.invariant-loop-i
invariant-loop-i l = Put l.initial.out l.at (take l.i l.s) l.out (l.at + l.i)
