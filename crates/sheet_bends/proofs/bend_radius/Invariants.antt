-- `sheet_bends::bend_radius` meets its contract: the largest radius of the faces that are passed.
use mathlib.Core.Path.{◌≡◌}
use Rattle.file_part.specs.Part.{part_of}
use Rattle.sheet_bends.specs.Bends.{bend_radius_to}
use Rattle.sheet_bends.proofs.bend_radius.Given as goal

abbrev pub invariant-loop-f : goal.invariant-loop-f
invariant-loop-f l = l.radius ≡ bend_radius_to (part_of l.file) l.sheet.thickness l.f
