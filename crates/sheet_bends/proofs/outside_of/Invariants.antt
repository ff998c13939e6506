-- `sheet_bends::outside_of` meets its contract: none of the faces that are passed is outside.
use mathlib.Core.Path.{◌≡◌}
use mathlib.Core.Bool.{false}
use Prim.Native.Nat.{ℕ, ◌<◌}
use Rattle.file_part.specs.Part.{part_of}
use Rattle.sheet_bends.specs.Bends.{is_outside}
use Rattle.sheet_bends.proofs.outside_of.Given as goal

abbrev pub invariant-loop-g : goal.invariant-loop-g
invariant-loop-g l = (i : ℕ) → i < l.g → is_outside (part_of l.file) l.thick l.f i ≡ false
