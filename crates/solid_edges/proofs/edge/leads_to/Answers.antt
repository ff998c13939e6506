-- `solid_edges::edge::leads_to` meets its contract.
use mathlib.Core.Path.{◌∙◌}
use Rattle.solid_edges.proofs.EdgeLaws.{leads_none, leads_beyond, leads_near, leads_past}
use Rattle.solid_edges.proofs.edge.leads_to.Goals as goal

pub returns-in_err-e : goal.returns-in_err-e
returns-in_err-e c = c.from_residual.ensures ∙ leads_none _ _ _ c.in_err-e.ensures

pub returns-then-e-f : goal.returns-then-e-f
returns-then-e-f c = leads_beyond _ _ _ _ c.in_ok-e.ensures c.if-e-f.true

pub returns-then-e-f-2 : goal.returns-then-e-f-2
returns-then-e-f-2 c = leads_near _ _ _ _ c.in_ok-e.ensures c.if-e-f.false c.if-e-f-2.true

pub returns : goal.returns
returns c = leads_past _ _ _ _ c.in_ok-e.ensures c.if-e-f.false c.if-e-f-2.false
