-- The printed report. Definitions only.
use Rattle.std.specs.Prelude.{Option, Some, None, List, [], ◌∷◌, ◌++◌, ℕ, length, Float}
use Rattle.std.specs.Float.{binary64}
use Rattle.std.specs.Float.Ieee.{to_bits}
use Rattle.num_text.specs.Number.{numeral, hex16}
use Rattle.fault_row.specs.declared.fault.Severity.{Severity}
use Rattle.fault_row.specs.declared.fault.Rule.{Rule}
use Rattle.fault_row.specs.declared.summary.Summary.{Summary}
use Rattle.fault_row.specs.Names.{severity_name, rule_name}
use Rattle.fault_lines.specs.Line.{Line}
use Rattle.report_faces.specs.Text.{faces_text}

-- ---- "Then a line per finding, bars between: severity, rule, count, faces .., message. Every line ends in a line feed": 124 is the bar
unfoldable pub front_text : Severity → Rule → ℕ → List ℕ
front_text severity rule count = severity_name severity ++ (124 ∷ (rule_name rule ++ (124 ∷ (numeral count ++ (124 ∷ [])))))

unfoldable pub line_text : Line → List ℕ
line_text l =
    front_text l.heading.severity l.heading.rule l.count ++ (faces_text l.faces ++ (124 ∷ (l.heading.text ++ (10 ∷ []))))

unfoldable pub lines_text : List Line → List ℕ
lines_text [] = []
lines_text (l ∷ ls) = line_text l ++ lines_text ls

-- ---- "First line, blanks between: findings (the number of lines that follow), thickness, bends, height; the two lengths are 16 lower-case
-- hexadecimal digits of the f64, or `-` for none": 45 is the dash, 32 the blank
unfoldable pub length_text : Option Float → List ℕ
length_text (Some x) = hex16 (to_bits binary64 x)
length_text None = 45 ∷ []

unfoldable pub head_text : ℕ → Summary → List ℕ
head_text findings x =
    numeral findings ++ (32 ∷ (length_text x.thickness ++ (32 ∷ (numeral x.bends ++ (32 ∷ (length_text x.height ++ (10 ∷ [])))))))

unfoldable pub report_text : Summary → List Line → List ℕ
report_text x lines = head_text (length lines) x ++ lines_text lines
