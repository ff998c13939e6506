-- The severities and the rules: their ranks and their names. Definitions only.
use Rattle.std.specs.Prelude.{Bool, true, false, ◌&&◌, ◌||◌, cond, List, [], ◌∷◌, ℕ, eqb, ltb}
use Rattle.num_text.specs.Put.{bytes}
use Rattle.fault_row.specs.declared.fault.Severity.{Severity}
use Rattle.fault_row.specs.declared.fault.Severity.TheVariants.{Error, Warning, Note}
use Rattle.fault_row.specs.declared.fault.Rule.{Rule}
use Rattle.fault_row.specs.declared.fault.Rule.TheVariants.{DeepHole, DeepInsideCorner, EnclosedHollow, FewLayers, HoleTooClose, Material, NoMaterial, NotClosed, NotOneThickness, Overhang, SharpInsideCorner, ShortFlange, SmallHole, ThinWall, ThinnerThanALayer, ThinnerThanTheNozzle, TightBend, TightInsideRadius}

-- ---- severities: dfm.rs orders them as it declares them, and prints their `label`
unfoldable pub severity_rank : Severity → ℕ
severity_rank Error = 0
severity_rank Warning = 1
severity_rank Note = 2

unfoldable pub severity_name : Severity → List ℕ
severity_name Error = bytes "Error"
severity_name Warning = bytes "Warning"
severity_name Note = bytes "Note"

-- the severity of a rank; the last for any number over 2
unfoldable pub severity_of : ℕ → Severity
severity_of n = cond (eqb n 0) Error (cond (eqb n 1) Warning Note)

-- ---- rules: dfm.rs names them by strings, and orders them so
unfoldable pub rule_name : Rule → List ℕ
rule_name DeepHole = bytes "Deep hole"
rule_name DeepInsideCorner = bytes "Deep inside corner"
rule_name EnclosedHollow = bytes "Enclosed hollow"
rule_name FewLayers = bytes "Few layers"
rule_name HoleTooClose = bytes "Hole too close"
rule_name Material = bytes "Material"
rule_name NoMaterial = bytes "No material"
rule_name NotClosed = bytes "Not closed"
rule_name NotOneThickness = bytes "Not one thickness"
rule_name Overhang = bytes "Overhang"
rule_name SharpInsideCorner = bytes "Sharp inside corner"
rule_name ShortFlange = bytes "Short flange"
rule_name SmallHole = bytes "Small hole"
rule_name ThinWall = bytes "Thin wall"
rule_name ThinnerThanALayer = bytes "Thinner than a layer"
rule_name ThinnerThanTheNozzle = bytes "Thinner than the nozzle"
rule_name TightBend = bytes "Tight bend"
rule_name TightInsideRadius = bytes "Tight inside radius"

-- the place of a rule's name in the byte order of all (`names_by_bytes`, proofs/NameLaws.antt)
unfoldable pub rule_rank : Rule → ℕ
rule_rank DeepHole = 0
rule_rank DeepInsideCorner = 1
rule_rank EnclosedHollow = 2
rule_rank FewLayers = 3
rule_rank HoleTooClose = 4
rule_rank Material = 5
rule_rank NoMaterial = 6
rule_rank NotClosed = 7
rule_rank NotOneThickness = 8
rule_rank Overhang = 9
rule_rank SharpInsideCorner = 10
rule_rank ShortFlange = 11
rule_rank SmallHole = 12
rule_rank ThinWall = 13
rule_rank ThinnerThanALayer = 14
rule_rank ThinnerThanTheNozzle = 15
rule_rank TightBend = 16
rule_rank TightInsideRadius = 17

-- strings as Rust orders them: byte by byte, a shorter one before its continuations
unfoldable pub bytes_before : List ℕ → List ℕ → Bool
bytes_before s [] = false
bytes_before [] (b ∷ t) = true
bytes_before (a ∷ s) (b ∷ t) = ltb a b || (eqb a b && bytes_before s t)
