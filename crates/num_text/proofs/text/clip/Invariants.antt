-- `num_text::text::clip` meets its contract. The invariant: the bytes so far are written.
use Rattle.std.proofs.Common.{take}
use Rattle.num_text.specs.Put.{Put}
use Rattle.num_text.proofs.text.clip.Given as goal

abbrev pub invariant-loop-b : goal.invariant-loop-b
invariant-loop-b l = Put l.initial.out l.at (take l.b-index l.s) l.out l.next
