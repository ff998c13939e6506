-- `obj_number::whole::digits` meets its contract: what is left of the digits, read after the value so far, gives the whole.
use mathlib.Core.Path.{◌≡◌}
use Prim.Native.Nat.{◌≤◌, ◌^◌}
use lib.ListN.{drop}
use Rattle.obj_number.specs.Whole.{digits_field}
use Rattle.obj_number.proofs.whole.digits.Given as goal

abbrev pub invariant-loop-b : goal.invariant-loop-b
invariant-loop-b l = record { most : l.value ≤ 2 ^ 63; rest : digits_field l.value (drop l.b-index l.s) ≡ digits_field l.n l.s }
