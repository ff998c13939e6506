-- What stands in the scratch, and what is as it was, after the body and then the readings were put.
use mathlib.Core.Path.{◌≡◌}
use mathlib.Core.Bool.{true}
use mathlib.Core.List.{List}
use Prim.Native.Nat.{ℕ}
use native.Mathlib.Omega.{arith}
use lib.Ieee.{Float, nan}
use Rattle.list_laws.specs.Region.{Outside}
use Rattle.list_laws.proofs.Outside.{outside_then, outside_wide}
use Rattle.file_part.specs.Part.{part_of}
use Rattle.scratch.specs.declared.regions.Regions.{Regions}
use Rattle.scratch.specs.Standing.{Standing}
use Rattle.wall_samples.specs.Stored.{Readings}
use Rattle.probe.specs.Scratch.{ReadingsPut}

pub readings_put : (s : List ℕ) (at : Regions) (words words₁ words₂ : List ℕ) (reals reals₁ reals₂ : List Float) → Standing s at words₂ reals₂ →
    Outside 0 0 at.readings words words₁ → Outside nan 0 at.falling reals reals₁ → (at.segments ≡ true) × (at.bodies ≡ true) →
    Outside 0 at.readings at.kinds words₁ words₂ → Outside nan at.falling at.rounds reals₁ reals₂ → Readings (part_of s) at words₂ reals₂ →
    ReadingsPut s words words₂ reals reals₂
readings_put s at words words₁ words₂ reals reals₁ reals₂ standing w r whole w' r' readings =
    let laid = standing.placed.laid in
    record {
      at = at;
      whole = whole;
      standing = standing;
      readings = readings;
      words_kept =
          outside_then 0 0 at.kinds words words₁ words₂ (outside_wide 0 _ _ 0 at.kinds words words₁ (omega arith) (omega (arith, laid)) w)
          (outside_wide 0 _ _ 0 at.kinds words₁ words₂ (omega arith) (omega arith) w');
      reals_kept =
          outside_then nan 0 at.rounds reals reals₁ reals₂ (outside_wide nan _ _ 0 at.rounds reals reals₁ (omega arith) (omega (arith, laid)) r)
          (outside_wide nan _ _ 0 at.rounds reals₁ reals₂ (omega arith) (omega arith) r');
    }
