-- A line, and the faults of one. Definitions only.
use Rattle.std.specs.Prelude.{Bool, true, false, ◌&&◌, cond, List, [], ◌∷◌, ◌++◌, ℕ, suc, ◌+◌, eqb, get_or}
use Rattle.file_part.specs.declared.read.FaceId.{FaceId}
use Rattle.fault_row.specs.Names.{severity_rank, rule_rank}
use Rattle.fault_row.specs.Fault.{Heading, Fault, none}

-- "a line is a finding's line, never the report's first": what its faults have in common, a count and faces
pub record Line : Type 0 where
  pub heading : Heading
  pub count : ℕ
  pub faces : List FaceId

-- fault number i
unfoldable pub at : List Fault → ℕ → Fault
at fs i = get_or fs i none

-- ---- the faults of one line
unfoldable pub same_text : List ℕ → List ℕ → Bool
same_text [] [] = true
same_text [] (b ∷ t) = false
same_text (a ∷ s) [] = false
same_text (a ∷ s) (b ∷ t) = eqb a b && same_text s t

-- "severity, rule and text (byte for byte)". Severities and rules are told by their ranks, which no two share (`heading_same`, proofs/HeadingLaws.antt)
unfoldable pub same_heading_of : Heading → Heading → Bool
same_heading_of a b =
    eqb (severity_rank a.severity) (severity_rank b.severity) && (eqb (rule_rank a.rule) (rule_rank b.rule) && same_text a.text b.text)

-- "its faults are all that have these three"
unfoldable pub alike : List Fault → Heading → List Fault
alike [] h = []
alike (f ∷ fs) h = cond (same_heading_of f.heading h) (f ∷ alike fs h) (alike fs h)

-- "their lowest fault number"
unfoldable pub first : List Fault → Heading → ℕ
first [] h = 0
first (f ∷ fs) h = cond (same_heading_of f.heading h) 0 (suc (first fs h))

-- "the sum of theirs"
unfoldable pub total : List Fault → ℕ
total [] = 0
total (f ∷ fs) = f.count + total fs

unfoldable pub all_faces : List Fault → List FaceId
all_faces [] = []
all_faces (f ∷ fs) = f.faces ++ all_faces fs
