-- What the lines of a report are, in words that name no way to find them: demand 3. Definitions only.
use Rattle.std.specs.Prelude.{◌≡◌, true, List, [], ◌∷◌, ◌⊎◌, ◌<◌, ◌≤◌, length}
use Rattle.fault_row.specs.Names.{severity_rank, rule_name, bytes_before}
use Rattle.fault_row.specs.Fault.{Fault}
use Rattle.fault_lines.specs.Member.{In, Ordered}
use Rattle.fault_lines.specs.Ids.{Once}
use Rattle.fault_lines.specs.Line.{Line, alike, first, total, all_faces}

-- "Lines run by severity and rule as dfm.rs ranks them, then by their lowest fault number": severities as they are declared, rules by the bytes of
-- their names
unfoldable pub Before : List Fault → Line → Line → Type 0
Before faults l m =
    (severity_rank l.heading.severity < severity_rank m.heading.severity)
    ⊎ ((l.heading.severity ≡ m.heading.severity)
    × ((bytes_before (rule_name l.heading.rule) (rule_name m.heading.rule) ≡ true)
    ⊎ ((l.heading.rule ≡ m.heading.rule) × (first faults l.heading < first faults m.heading))))

-- The lines of a list of faults. No other list of lines has this of the same faults (`determined`, proofs/Unique.antt).
pub record Listed (faults : List Fault) (lines : List Line) : Type 0 where
  -- "There is a line for each severity, rule and text (byte for byte) that some fault has"
  pub covers : (f : Fault) → In f faults → (l : Line) × In l lines × (l.heading ≡ f.heading)
  -- and no line that no fault has
  pub owned : (l : Line) → In l lines → (f : Fault) × In f faults × (f.heading ≡ l.heading)
  -- one each: no two lines share all three
  pub apart : Ordered (λ l m. l.heading ≡ m.heading → ⊥) lines
  -- "its faults are all that have these three. Its count is the sum of theirs"
  pub counts : (l : Line) → In l lines → l.count ≡ total (alike faults l.heading)
  -- "Its faces are its only fault's, unchanged"
  pub alone : (l : Line) → In l lines → (f : Fault) → alike faults l.heading ≡ f ∷ [] → l.faces ≡ f.faces
  -- "or those of all its faults, sorted as dfm.rs sorts them, each once"
  pub several : (l : Line) → In l lines → 2 ≤ length (alike faults l.heading) → Once (all_faces (alike faults l.heading)) l.faces
  pub ordered : Ordered (Before faults) lines
