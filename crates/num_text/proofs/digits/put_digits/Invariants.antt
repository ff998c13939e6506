-- `num_text::digits::put_digits` meets its contract. The invariant: the digits still to be written, written now, give the whole result.
use mathlib.Core.Path.{◌≡◌}
use lib.ListN.{length}
use Rattle.num_text.specs.Number.{digits}
use Rattle.num_text.specs.Put.{over}
use Rattle.num_text.proofs.digits.put_digits.Given as goal

abbrev pub invariant-loop-i : goal.invariant-loop-i
invariant-loop-i l = (length l.out ≡ length l.initial.out) × (over l.out l.at (digits l.i l.v) ≡ over l.initial.out l.at (digits l.k l.n))
