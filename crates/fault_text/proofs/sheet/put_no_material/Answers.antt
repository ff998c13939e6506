-- `fault_text::sheet::put_no_material` meets its contract: one writer.
use Rattle.fault_text.specs.Sheet.{no_material_text}
use Rattle.fault_text.proofs.sheet.put_no_material.Goals as goal

pub returns : goal.returns
unfolding no_material_text
returns c = c.put_bytes.ensures
