-- `sheet_thickness::off_area` meets its contract.
use mathlib.Core.Path.{sym, ◌∙◌}
use Rattle.sheet_thickness.proofs.ListLaws.{added_none, added_more, added_past}
use Rattle.sheet_thickness.proofs.off_area.Goals as goal
use Rattle.sheet_thickness.proofs.off_area.Goals.{then-is_off_at, else-is_off_at}

pub loop-k-init : goal.loop-k-init
loop-k-init c = added_none _ _

pub loop-k-preserved : goal.loop-k-preserved
loop-k-preserved c =
    elim c.if-is_off_at.branch [
      | then-is_off_at w ↦ w.sum-is ∙ added_more _ _ _ _ (sym c.is_off_at.ensures ∙ w.if-is_off_at.true) c.loop-k.invariant
      | else-is_off_at w ↦ w.sum-is ∙ added_past _ _ _ _ (sym c.is_off_at.ensures ∙ w.if-is_off_at.false) c.loop-k.invariant
    ]
