-- What stands in the scratch still stands after changes of the order and of the keys.
use mathlib.Core.List.{List}
use Prim.Native.Nat.{ℕ}
use native.Mathlib.Omega.{arith}
use lib.Ieee.{Float, nan}
use Rattle.list_laws.specs.Region.{Outside}
use Rattle.list_laws.proofs.Outside.{outside_wide}
use Rattle.file_part.specs.Part.{part_of}
use Rattle.scratch.specs.declared.regions.Regions.{Regions}
use Rattle.scratch.specs.Standing.{Standing}
use Rattle.solid_ranks.proofs.KeptLaws.{sorts_only, only_standing}
use Rattle.solid_tours.specs.Work.Kept.{EdgesOrdered}
use Rattle.solid_tours.proofs.KeptLaws.{ordered_kept}
use Rattle.wall_samples.specs.Stored.{Readings}
use Rattle.wall_pairs.proofs.KeptLaws.{readings_kept}

module _ (s : List ℕ) (at : Regions) (words words' : List ℕ) (reals reals' : List Float) (w : Outside 0 at.order at.kinds words words')
    (r : Outside nan at.falling at.thickness reals reals') where
  pub still_stands : Standing s at words reals → Standing s at words' reals'
  still_stands g = only_standing s at words words' reals reals' (sorts_only at words words' reals reals' g.placed.laid w r) g

  pub still_read : Standing s at words reals → Readings (part_of s) at words reals → Readings (part_of s) at words' reals'
  still_read g h = readings_kept s at words words' reals reals' (sorts_only at words words' reals reals' g.placed.laid w r) g h

  pub still_ordered : EdgesOrdered s at words reals → EdgesOrdered s at words' reals'
  still_ordered o =
      let laid = o.standing.placed.laid in
      ordered_kept s at words words' reals reals' o
      (outside_wide 0 at.order at.kinds at.readings at.ranks words words' (omega (arith, laid)) (omega (arith, laid)) w)
      (outside_wide nan at.falling at.thickness at.falling at.directions reals reals' (omega arith) (omega (arith, laid)) r)
