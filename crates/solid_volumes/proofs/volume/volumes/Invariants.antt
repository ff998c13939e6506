-- `solid_volumes::volume::volumes` meets its contract.
use Prim.Native.Nat.{ℕ, ◌<◌}
use mathlib.Core.Path.{◌≡◌}
use lib.Ieee.{nan}
use lib.ListN.{get_or}
use Rattle.file_part.specs.Layout.{polygon_count_of}
use Rattle.file_part.specs.Part.{part_of}
use Rattle.solid_volumes.specs.Volume.{volume_to}
use Rattle.solid_volumes.proofs.volume.volumes.Given as goal

abbrev pub invariant-loop-p : goal.invariant-loop-p
invariant-loop-p l =
    (b : ℕ) → b < polygon_count_of l.file → get_or l.volume b nan ≡ volume_to (part_of l.file) b l.p
