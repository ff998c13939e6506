-- The messages of printing, as dfm.rs's `printing` has them. Definitions only.
use Rattle.std.specs.Prelude.{List, ◌++◌, ℕ, pos, Float}
use Rattle.std.specs.Float.{binary64}
use Rattle.std.specs.Float.Ieee.{mul, div, of_int, of_bits}
use Rattle.num_text.specs.Put.{bytes}
use Rattle.num_text.specs.Number.{numeral}
use Rattle.num_text.specs.Decimal.{decimal_text}
use Rattle.file_job.specs.declared.Process.{Process}
use Rattle.file_job.specs.declared.Process.TheVariants.{CncMachining, SheetMetal, Fdm, Sla, Sls}
use Rattle.fault_text.specs.Text.{mm}

-- ---- from the job
-- dfm.rs's `label`
unfoldable pub label_of : Process → List ℕ
label_of CncMachining = bytes "CNC machining"
label_of SheetMetal = bytes "Sheet metal"
label_of Fdm = bytes "FDM printing"
label_of Sla = bytes "SLA printing"
label_of Sls = bytes "SLS printing"

-- dfm.rs's `need`, `2.0 * print.layer`
unfoldable pub two_layers : Float → Float
two_layers layer = mul binary64 (of_bits binary64 0x4000_0000_0000_0000) layer

-- "The limit in the text is the count divided once by 10, as f64"; the count is one of tenths of a degree
unfoldable pub limit_of : ℕ → Float
limit_of tenths = div binary64 (of_int binary64 (pos tenths)) (of_bits binary64 0x4024_0000_0000_0000)

-- ---- messages
-- of document 02, item 3: "the Rust's message with their number"
unfoldable pub not_closed_text : ℕ → List ℕ
not_closed_text edges = bytes "The body has " ++ (numeral edges ++ bytes " open edges; a slicer needs a closed solid to tell inside from outside.")

-- the start of the next two
unfoldable pub floor_text : Float → List ℕ
floor_text x = bytes "Floor or roof is " ++ (mm x ++ bytes " thick, ")

unfoldable pub thinner_than_a_layer_text : Float → Float → List ℕ
thinner_than_a_layer_text x layer = floor_text x ++ (bytes "less than one " ++ (mm layer ++ bytes " layer; it will not print."))

unfoldable pub few_layers_text : Float → Float → Float → List ℕ
few_layers_text x layers layer =
    floor_text x ++ (decimal_text layers 1 ++ (bytes " layers of " ++ (mm layer ++ (bytes "; at least two layers (" ++ (mm (two_layers layer) ++ bytes ") hold together.")))))

unfoldable pub thinner_than_the_nozzle_text : Float → Float → List ℕ
thinner_than_the_nozzle_text x nozzle =
    bytes "Wall is " ++ (mm x ++ (bytes " thick, narrower than the " ++ (mm nozzle ++ bytes " nozzle's line; the slicer will leave it out.")))

unfoldable pub print_thin_wall_text : Process → Float → Float → List ℕ
print_thin_wall_text process x min_wall_of =
    bytes "Wall is " ++ (mm x ++ (bytes " thick; " ++ (label_of process ++ (bytes " needs at least " ++ (mm min_wall_of ++ bytes " to print reliably.")))))

unfoldable pub print_small_hole_text : Float → Float → List ℕ
print_small_hole_text d min_hole_of =
    bytes "Hole is " ++ (mm d ++ (bytes " across; holes under " ++ (mm min_hole_of ++ bytes " print undersized or close up. Print it larger and drill it to size.")))

unfoldable pub overhang_text : Float → ℕ → List ℕ
overhang_text area tenths =
    decimal_text area 1 ++ (bytes " mm² faces down more than " ++ (decimal_text (limit_of tenths) 0
    ++ bytes "° from vertical and needs supports; turning the part may avoid them."))

unfoldable pub enclosed_hollow_sla_text : Float → List ℕ
enclosed_hollow_sla_text volume =
    bytes "An enclosed hollow of " ++ (decimal_text volume 1 ++ bytes " mm³ traps liquid resin, which can crack the part; add drain holes, or fill it.")

unfoldable pub enclosed_hollow_sls_text : Float → List ℕ
enclosed_hollow_sls_text volume =
    bytes "An enclosed hollow of " ++ (decimal_text volume 1 ++ bytes " mm³ traps unsintered powder; add escape holes so it can be cleared, or fill it.")
