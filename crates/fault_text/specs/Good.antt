-- What a flaw has to be so that it is printed. Definitions only; a reader may pass over it.
use Rattle.std.specs.Prelude.{◌≡◌, true, ◌≤◌, ◌<◌}
use Rattle.num_text.specs.Decimal.{accepted}
use Rattle.file_part.specs.Part.{Part}
use Rattle.solid_faces.specs.Faces.{faces_of}
use Rattle.fault_row.specs.declared.flaw.Flaw.{Flaw}
use Rattle.fault_row.specs.declared.flaw.Flaw.TheVariants.{ThinWall, SmallHole, DeepHoleMax, DeepHoleStandard, TightInsideRadius, DeepInsideCorner, SharpInsideCorner, NoMaterial, Material, NotOneThickness, TightBend, ShortFlange, SheetSmallHole, HoleNearBend, HoleNearEdge, NotClosed, ThinnerThanALayer, FewLayers, ThinnerThanTheNozzle, PrintThinWall, PrintSmallHole, Overhang, EnclosedHollowSla, EnclosedHollowSls}
use Rattle.fault_text.specs.Job.{min_wall_of}
use Rattle.fault_text.specs.Printing.{two_layers, limit_of}

-- the faces that it names are faces of the part (one without a face is of a part that has some), a hollow's polygon is one of its polygons, 2,048
-- counts add up below 2 ^ 32, and the decimal writer takes every number that the text prints, so that its own digits are printed (`accepted_text` of
-- num_text): "13 comes from the decimal writer alone; a check never meets it"
unfoldable pub Good : Part → Flaw → Type 0
Good t (ThinWall s f g x) = (f < faces_of t) × (g < faces_of t) × (accepted x 2 ≡ true) × (accepted (min_wall_of t) 2 ≡ true)
Good t (SmallHole f d) = (f < faces_of t) × (accepted d 2 ≡ true)
Good t (DeepHoleMax f ratio d length) = (f < faces_of t) × (accepted ratio 1 ≡ true) × (accepted d 2 ≡ true) × (accepted length 2 ≡ true)
Good t (DeepHoleStandard f ratio) = (f < faces_of t) × (accepted ratio 1 ≡ true)
Good t (TightInsideRadius f radius) = (f < faces_of t) × (accepted radius 2 ≡ true)
Good t (DeepInsideCorner f ratio radius length) = (f < faces_of t) × (accepted ratio 1 ≡ true) × (accepted radius 2 ≡ true) × (accepted length 2 ≡ true)
Good t (SharpInsideCorner f g length fillet) = (f < faces_of t) × (g < faces_of t) × (accepted length 2 ≡ true) × (accepted fillet 2 ≡ true)
Good t NoMaterial = (0 < faces_of t)
Good t Material = (0 < faces_of t)
Good t (NotOneThickness lo hi thickness) = (0 < faces_of t) × (accepted lo 2 ≡ true) × (accepted hi 2 ≡ true) × (accepted thickness 2 ≡ true)
Good t (TightBend f g radius least) = (f < faces_of t) × (g < faces_of t) × (accepted radius 2 ≡ true) × (accepted least 2 ≡ true)
Good t (ShortFlange f g length least) = (f < faces_of t) × (g < faces_of t) × (accepted length 2 ≡ true) × (accepted least 2 ≡ true)
Good t (SheetSmallHole f d least) = (f < faces_of t) × (accepted d 2 ≡ true) × (accepted least 2 ≡ true)
Good t (HoleNearBend f g gap need) = (f < faces_of t) × (g < faces_of t) × (accepted gap 2 ≡ true) × (accepted need 2 ≡ true)
Good t (HoleNearEdge f g gap need) = (f < faces_of t) × (g < faces_of t) × (accepted gap 2 ≡ true) × (accepted need 2 ≡ true)
Good t (NotClosed edges) = (0 < faces_of t) × (edges < 4294967296)
Good t (ThinnerThanALayer f g x) = (f < faces_of t) × (g < faces_of t) × (accepted x 2 ≡ true) × (accepted t.job.print.layer 2 ≡ true)
Good t (FewLayers f g x layers) = (f < faces_of t) × (g < faces_of t) × (accepted x 2 ≡ true) × (accepted layers 1 ≡ true) × (accepted t.job.print.layer 2 ≡ true) × (accepted (two_layers t.job.print.layer) 2 ≡ true)
Good t (ThinnerThanTheNozzle f g x) = (f < faces_of t) × (g < faces_of t) × (accepted x 2 ≡ true) × (accepted t.job.print.nozzle 2 ≡ true)
Good t (PrintThinWall s f g x) = (f < faces_of t) × (g < faces_of t) × (accepted x 2 ≡ true) × (accepted t.job.print.min_wall 2 ≡ true)
Good t (PrintSmallHole f d) = (f < faces_of t) × (accepted d 2 ≡ true) × (accepted t.job.print.min_hole 2 ≡ true)
Good t (Overhang count area) = (0 < faces_of t) × (1 ≤ count) × (count < 2097152) × (accepted area 1 ≡ true) × (accepted (limit_of t.job.print.overhang) 0 ≡ true)
Good t (EnclosedHollowSla p volume) = (0 < faces_of t) × (p < t.polygons) × (accepted volume 1 ≡ true)
Good t (EnclosedHollowSls p volume) = (0 < faces_of t) × (p < t.polygons) × (accepted volume 1 ≡ true)
