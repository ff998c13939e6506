-- Which faces a flaw names, in the ways in which the code finds them: in a part they are the faces of its fault (`Told-Named`, proofs/NameLaws.antt). A
-- reader may pass over it. Definitions only.
use Rattle.std.specs.Prelude.{Bool, true, false, List, [], ◌∷◌, ℕ, Float}
use Rattle.file_part.specs.declared.read.FaceId.{FaceId}
use Rattle.file_part.specs.Part.{Part}
use Rattle.solid_ids.specs.Ids.{id_of}
use Rattle.fault_row.specs.declared.flaw.Flaw.{Flaw}
use Rattle.fault_row.specs.declared.flaw.Flaw.TheVariants.{ThinWall, SmallHole, DeepHoleMax, DeepHoleStandard, TightInsideRadius, DeepInsideCorner, SharpInsideCorner, NoMaterial, Material, NotOneThickness, TightBend, ShortFlange, SheetSmallHole, HoleNearBend, HoleNearEdge, NotClosed, ThinnerThanALayer, FewLayers, ThinnerThanTheNozzle, PrintThinWall, PrintSmallHole, Overhang, EnclosedHollowSla, EnclosedHollowSls}
use Rattle.fault_row.specs.Row.{row_at_of}
use Rattle.fault_row.specs.Flaw.{flaw_of}
use Rattle.fault_merge.specs.fault_text.specs.Many.{hollow_faces, off_faces, overhang_faces}
use Rattle.report_faces.specs.declared.named.Named.{Named}
use Rattle.report_faces.specs.declared.named.Named.TheVariants.{NoFace, One, Two, Off, Hanging, Body}

unfoldable pub named_of : Flaw → Named
named_of (ThinWall severity f g x) = Two f g
named_of (SmallHole f d) = One f
named_of (DeepHoleMax f ratio d length) = One f
named_of (DeepHoleStandard f ratio) = One f
named_of (TightInsideRadius f radius) = One f
named_of (DeepInsideCorner f ratio radius length) = One f
named_of (SharpInsideCorner f g length fillet) = Two f g
named_of NoMaterial = NoFace
named_of Material = NoFace
named_of (NotOneThickness lo hi thickness) = Off
named_of (TightBend f g radius least) = Two f g
named_of (ShortFlange f g length least) = Two f g
named_of (SheetSmallHole f d least) = One f
named_of (HoleNearBend f g gap need) = Two f g
named_of (HoleNearEdge f g gap need) = Two f g
named_of (NotClosed edges) = NoFace
named_of (ThinnerThanALayer f g x) = Two f g
named_of (FewLayers f g x layers) = Two f g
named_of (ThinnerThanTheNozzle f g x) = Two f g
named_of (PrintThinWall severity f g x) = Two f g
named_of (PrintSmallHole f d) = One f
named_of (Overhang count area) = Hanging
named_of (EnclosedHollowSla p volume) = Body p
named_of (EnclosedHollowSls p volume) = Body p

-- by the flaw of row k
unfoldable pub named_at : List ℕ → List Float → ℕ → Named
named_at cells numbers k = named_of (flaw_of (row_at_of cells numbers k))

-- their ids in a part
unfoldable pub faces_named : Part → Named → List FaceId
faces_named t NoFace = []
faces_named t (One f) = id_of t f ∷ []
faces_named t (Two f g) = id_of t f ∷ id_of t g ∷ []
faces_named t Off = off_faces t
faces_named t Hanging = overhang_faces t
faces_named t (Body p) = hollow_faces t p

-- whether they are found from the part
unfoldable pub is_many : Named → Bool
is_many NoFace = false
is_many (One f) = false
is_many (Two f g) = false
is_many Off = true
is_many Hanging = true
is_many (Body p) = true

-- those that a flaw names itself
unfoldable pub own_faces : Part → Named → List FaceId
own_faces t NoFace = []
own_faces t (One f) = id_of t f ∷ []
own_faces t (Two f g) = id_of t f ∷ id_of t g ∷ []
own_faces t Off = []
own_faces t Hanging = []
own_faces t (Body p) = []
