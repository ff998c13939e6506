-- `fault_text::sheet::put_material` meets its contract: one writer after the other.
use Rattle.fault_text.specs.Sheet.{material_text, sheet_name}
use Rattle.num_text.proofs.TextLaws.{adds_then}
use Rattle.fault_text.proofs.sheet.put_material.Goals as goal

pub returns : goal.returns
unfolding material_text sheet_name
returns c = adds_then _ _ c.put_name.ensures c.put_bytes.ensures
