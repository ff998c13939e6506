-- `solid_boxes::order::put_cell` meets its contract.
use mathlib.Core.Path.{refl}
use lib.ListN.{length-set}
use Rattle.solid_boxes.proofs.order.put_cell.Goals as goal

pub returns : goal.returns
returns c =
    record {
      fact_1 = refl;
      fact_2 = simp length-set;
    }
