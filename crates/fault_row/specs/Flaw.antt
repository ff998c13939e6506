-- The row of a flaw, and the flaw of a row. Definitions only.
use Rattle.std.specs.Prelude.{cond, ℕ, eqb, Float}
use Rattle.std.specs.Float.{binary64}
use Rattle.std.specs.Float.Ieee.{of_bits}
use Rattle.fault_row.specs.declared.row.FaultRow.{FaultRow}
use Rattle.fault_row.specs.declared.flaw.Flaw.{Flaw}
use Rattle.fault_row.specs.declared.flaw.Flaw.TheVariants.{ThinWall, SmallHole, DeepHoleMax, DeepHoleStandard, TightInsideRadius, DeepInsideCorner, SharpInsideCorner, NoMaterial, Material, NotOneThickness, TightBend, ShortFlange, SheetSmallHole, HoleNearBend, HoleNearEdge, NotClosed, ThinnerThanALayer, FewLayers, ThinnerThanTheNozzle, PrintThinWall, PrintSmallHole, Overhang, EnclosedHollowSla, EnclosedHollowSls}
use Rattle.fault_row.specs.Names.{severity_rank, severity_of}
use Rattle.fault_row.specs.Row.{row}

-- the f64 0.0: what a kind has no number for
abbrev pub o : Float
o = of_bits binary64 0

-- the kind whose text is made from a, where a is no face
abbrev pub not_closed : ℕ
not_closed = 16

-- kind, severity's rank, count, faces a and b, waived, numbers x, y and z. Kinds are numbered from 1 on; 0 is no fault
unfoldable pub row_of : Flaw → FaultRow
row_of (ThinWall severity f g x) = row 1 (severity_rank severity) 1 f g 0 x o o
row_of (SmallHole f d) = row 2 1 1 f 0 0 d o o
row_of (DeepHoleMax f ratio d length) = row 3 1 1 f 0 0 ratio d length
row_of (DeepHoleStandard f ratio) = row 4 2 1 f 0 0 ratio o o
row_of (TightInsideRadius f radius) = row 5 1 1 f 0 0 radius o o
row_of (DeepInsideCorner f ratio radius length) = row 6 1 1 f 0 0 ratio radius length
row_of (SharpInsideCorner f g length fillet) = row 7 1 1 f g 0 length fillet o
row_of NoMaterial = row 8 2 1 0 0 0 o o o
row_of Material = row 9 0 1 0 0 0 o o o
row_of (NotOneThickness lo hi thickness) = row 10 0 1 0 0 0 lo hi thickness
row_of (TightBend f g radius least) = row 11 0 1 f g 0 radius least o
row_of (ShortFlange f g length least) = row 12 1 1 f g 0 length least o
row_of (SheetSmallHole f d least) = row 13 1 1 f 0 0 d least o
row_of (HoleNearBend f g gap need) = row 14 1 1 f g 0 gap need o
row_of (HoleNearEdge f g gap need) = row 15 1 1 f g 0 gap need o
row_of (NotClosed edges) = row 16 0 1 edges 0 0 o o o
row_of (ThinnerThanALayer f g x) = row 17 0 1 f g 0 x o o
row_of (FewLayers f g x layers) = row 18 1 1 f g 0 x layers o
row_of (ThinnerThanTheNozzle f g x) = row 19 0 1 f g 0 x o o
row_of (PrintThinWall severity f g x) = row 20 (severity_rank severity) 1 f g 0 x o o
row_of (PrintSmallHole f d) = row 21 1 1 f 0 0 d o o
row_of (Overhang count area) = row 22 1 count 0 0 0 area o o
row_of (EnclosedHollowSla p volume) = row 23 1 1 p 0 0 volume o o
row_of (EnclosedHollowSls p volume) = row 24 0 1 p 0 0 volume o o

-- the flaw that a row keeps (`flaw_of_row`, proofs/FlawLaws.antt: that of `row_of f` is f); for a number that is no kind's, as for 16
unfoldable pub flaw_of : FaultRow → Flaw
flaw_of r =
    cond (eqb r.kind 1) (ThinWall (severity_of r.severity) r.a r.b r.x)
    (cond (eqb r.kind 2) (SmallHole r.a r.x)
    (cond (eqb r.kind 3) (DeepHoleMax r.a r.x r.y r.z)
    (cond (eqb r.kind 4) (DeepHoleStandard r.a r.x)
    (cond (eqb r.kind 5) (TightInsideRadius r.a r.x)
    (cond (eqb r.kind 6) (DeepInsideCorner r.a r.x r.y r.z)
    (cond (eqb r.kind 7) (SharpInsideCorner r.a r.b r.x r.y)
    (cond (eqb r.kind 8) NoMaterial
    (cond (eqb r.kind 9) Material
    (cond (eqb r.kind 10) (NotOneThickness r.x r.y r.z)
    (cond (eqb r.kind 11) (TightBend r.a r.b r.x r.y)
    (cond (eqb r.kind 12) (ShortFlange r.a r.b r.x r.y)
    (cond (eqb r.kind 13) (SheetSmallHole r.a r.x r.y)
    (cond (eqb r.kind 14) (HoleNearBend r.a r.b r.x r.y)
    (cond (eqb r.kind 15) (HoleNearEdge r.a r.b r.x r.y)
    (cond (eqb r.kind 17) (ThinnerThanALayer r.a r.b r.x)
    (cond (eqb r.kind 18) (FewLayers r.a r.b r.x r.y)
    (cond (eqb r.kind 19) (ThinnerThanTheNozzle r.a r.b r.x)
    (cond (eqb r.kind 20) (PrintThinWall (severity_of r.severity) r.a r.b r.x)
    (cond (eqb r.kind 21) (PrintSmallHole r.a r.x)
    (cond (eqb r.kind 22) (Overhang r.count r.x)
    (cond (eqb r.kind 23) (EnclosedHollowSla r.a r.x)
    (cond (eqb r.kind 24) (EnclosedHollowSls r.a r.x) (NotClosed r.a)))))))))))))))))))))))
