-- `file_ok::rules::vertices_are_good` meets its contract.
use Rattle.file_ok.proofs.PolygonLaws.{vertices_none, vertices_more, vertices_fail, vertices_all}
use Rattle.file_ok.proofs.rules.vertices_are_good.Goals as goal

pub loop-i-init : goal.loop-i-init
loop-i-init c = vertices_none _

pub returns-then-not-is_point : goal.returns-then-not-is_point
returns-then-not-is_point c = vertices_fail _ _ _ _ _ c.vertex.ensures c.is_point.ensures c.if-not-is_point.true c.loop-i-test.true

pub loop-i-preserved : goal.loop-i-preserved
loop-i-preserved c = vertices_more _ _ _ _ c.vertex.ensures c.is_point.ensures c.if-not-is_point.false c.loop-i.invariant

pub returns : goal.returns
returns c = vertices_all _ _ _ c.loop-i.auto.i-end c.loop-i-test.false c.loop-i.invariant
