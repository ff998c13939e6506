-- `replay_packed::put_unpacked` meets its contract. The invariant: to write what the bytes from the index on stand for is to write the whole.
use mathlib.Core.Path.{◌≡◌}
use mathlib.Core.Bool.{false}
use mathlib.Core.List.{List}
use Prim.Native.Nat.{ℕ}
use lib.ListN.{length, drop}
use Rattle.num_text.specs.Text.{Adds}
use Rattle.num_text.specs.declared.text.Text.{Text}
use Rattle.replay_packed.specs.Packed.{unpacked}
use Rattle.replay_packed.proofs.put_unpacked.Given as goal

abbrev pub invariant-loop-b : goal.invariant-loop-b
invariant-loop-b l = (after : Text) → Adds l.file (unpacked l.after_zero (drop l.b-index l.packed)) after → Adds l.initial.file (unpacked false l.packed) after
