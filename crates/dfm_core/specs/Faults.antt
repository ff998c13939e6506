-- The faults of a part and what else is found of it, and its report: dfm.rs's `check_with`. Definitions only.
use Rattle.std.specs.Prelude.{cond, List, [], ℕ, eqb}
use Rattle.file_job.specs.declared.Process.{Process}
use Rattle.file_job.specs.declared.Process.TheVariants.{CncMachining, SheetMetal, Fdm, Sla, Sls}
use Rattle.file_part.specs.Part.{Part}
use Rattle.solid_faces.specs.Faces.{faces_of}
use Rattle.fault_row.specs.declared.summary.Summary.{Summary}
use Rattle.fault_row.specs.declared.flaw.Flaw.{Flaw}
use Rattle.fault_row.specs.Fault.{Fault}
use Rattle.fault_row.specs.Summary.{no_summary}
use Rattle.report.specs.fault_text.specs.Told.{told_all}
use Rattle.fault_lines.specs.Lines.{lines_of}
use Rattle.rule_machining.specs.All.{machining}
use Rattle.rule_sheet.specs.All.{sheet_metal}
use Rattle.rule_sheet.specs.All as sheet
use Rattle.rule_printing.specs.All.{printing}
use Rattle.rule_printing.specs.All as print
use Rattle.report.specs.Text.{report_text}

-- "the rules of the job's process run in the order of `check_with`"
unfoldable pub flaws_by : Process → Part → List Flaw
flaws_by CncMachining t = machining t
flaws_by SheetMetal t = sheet_metal t
flaws_by Fdm t = printing t
flaws_by Sla t = printing t
flaws_by Sls t = printing t

-- "A part without polygons has none": then it has no faces, and `check_with` returns before any rule
unfoldable pub flaws_of : Part → List Flaw
flaws_of t = cond (eqb (faces_of t) 0) [] (flaws_by t.job.process t)

-- as they are told: severity, rule, text and faces
unfoldable pub faults_of : Part → List Fault
faults_of t = told_all t (flaws_of t)

-- thickness, bends and height
unfoldable pub summary_by : Process → Part → Summary
summary_by CncMachining t = no_summary
summary_by SheetMetal t = sheet.summary_of t
summary_by Fdm t = print.summary_of t
summary_by Sla t = print.summary_of t
summary_by Sls t = print.summary_of t

unfoldable pub summary_of : Part → Summary
summary_of t = cond (eqb (faces_of t) 0) no_summary (summary_by t.job.process t)

-- the report's bytes
unfoldable pub report_of : Part → List ℕ
report_of t = report_text (summary_of t) (lines_of (faults_of t))
