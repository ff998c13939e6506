-- What the probes leave in the lent scratch. Definitions only.
use Rattle.std.specs.Prelude.{◌≡◌, true, List, ℕ, Float}
use Rattle.std.specs.Float.{nan}
use Rattle.list_laws.specs.Region.{Outside}
use Rattle.file_part.specs.Part.{part_of}
use Rattle.scratch.specs.declared.regions.Regions.{Regions}
use Rattle.scratch.specs.Standing.{Standing}
use Rattle.wall_samples.specs.Stored.{Readings}

-- The whole body stands in both slices, with its segments, bodies and volumes, and the cells past its regions are as they were. Of its regions' cells,
-- the five cells a side after the sides' three, and those of the faces' first polygons past the last face, are work: what they hold is the program's choice.
pub record BodyPut (s words words' : List ℕ) (reals reals' : List Float) : Type 0 where
  pub at : Regions
  pub whole : (at.segments ≡ true) × (at.bodies ≡ true)
  pub standing : Standing s at words' reals'
  pub words_kept : Outside 0 0 at.readings words words'
  pub reals_kept : Outside nan 0 at.falling reals reals'

-- The body and the readings, in the same way. The program's choice are also the cells of the order and of the areas negated, and those of the readings
-- past the last one.
pub record ReadingsPut (s words words' : List ℕ) (reals reals' : List Float) : Type 0 where
  pub at : Regions
  pub whole : (at.segments ≡ true) × (at.bodies ≡ true)
  pub standing : Standing s at words' reals'
  pub readings : Readings (part_of s) at words' reals'
  pub words_kept : Outside 0 0 at.kinds words words'
  pub reals_kept : Outside nan 0 at.rounds reals reals'
