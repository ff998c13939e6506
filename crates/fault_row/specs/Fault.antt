-- What a fault is. Definitions only.
use Rattle.std.specs.Prelude.{List, [], ℕ}
use Rattle.file_part.specs.declared.read.FaceId.{FaceId}
use Rattle.fault_row.specs.declared.fault.Severity.{Severity}
use Rattle.fault_row.specs.declared.fault.Severity.TheVariants.{Note}
use Rattle.fault_row.specs.declared.fault.Rule.{Rule}
use Rattle.fault_row.specs.declared.fault.Rule.TheVariants.{NotClosed}

-- "severity, rule and text (byte for byte)": what the faults of one line have in common
pub record Heading : Type 0 where
  pub severity : Severity
  pub rule : Rule
  pub text : List ℕ

-- "severity, rule, text, count, faces"
pub record Fault : Type 0 where
  pub heading : Heading
  pub count : ℕ
  pub faces : List FaceId

-- a fault of one place
abbrev pub fault : Severity → Rule → List ℕ → List FaceId → Fault
fault severity rule text faces = record { heading = record { severity = severity; rule = rule; text = text }; count = 1; faces = faces }

-- what is read past the end of a list of faults
unfoldable pub none : Fault
none = record { heading = record { severity = Note; rule = NotClosed; text = [] }; count = 0; faces = [] }
