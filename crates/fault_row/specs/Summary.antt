-- What is found of a part beside its faults: `thickness`, `bends` and `height` of dfm.rs's report. Definitions only.
use Rattle.std.specs.Prelude.{Some, None, ℕ, Float}
use Rattle.fault_row.specs.declared.summary.Summary.{Summary}

-- `DfmReport::default()`: nothing is measured
unfoldable pub no_summary : Summary
no_summary = record { thickness = None; bends = 0; height = None }

-- of a sheet
unfoldable pub sheet_summary : Float → ℕ → Summary
sheet_summary thickness bends = record { thickness = Some thickness; bends = bends; height = None }

-- of a print
unfoldable pub print_summary : Float → Summary
print_summary height = record { thickness = None; bends = 0; height = Some height }
