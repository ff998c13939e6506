-- `obj::convert::size_refusal` meets its contract.
use Rattle.obj.proofs.ConvertLaws.{size_vertices, size_polygons, size_job, size_room, size_good}
use Rattle.obj.proofs.convert.size_refusal.Goals.{then-vertices-gt16384-via-then-vertices-gt16384, then-vertices-gt16384-via-else-vertices-gt16384+then-polygons-gt4096}
use Rattle.obj.proofs.convert.size_refusal.Goals as goal

pub returns-then-vertices-gt16384 : goal.returns-then-vertices-gt16384
returns-then-vertices-gt16384 c =
    elim c.then-vertices-gt16384.branch [
      | then-vertices-gt16384-via-then-vertices-gt16384 w ↦ size_vertices _ _ _ _ w.if-vertices-gt16384.true
      | then-vertices-gt16384-via-else-vertices-gt16384+then-polygons-gt4096 w ↦ size_polygons _ _ _ _ w.if-vertices-gt16384.false w.if-polygons-gt4096.true
    ]

pub returns-then-job-ne128 : goal.returns-then-job-ne128
returns-then-job-ne128 c = size_job _ _ _ _ c.if-vertices-gt16384.false c.if-polygons-gt4096.false c.if-job-ne128.true

pub returns-then-room-vertices : goal.returns-then-room-vertices
returns-then-room-vertices c = size_room _ _ _ _ c.if-vertices-gt16384.false c.if-polygons-gt4096.false c.if-job-ne128.false c.if-room-vertices.true

pub returns : goal.returns
returns c = size_good _ _ _ _ c.if-vertices-gt16384.false c.if-polygons-gt4096.false c.if-job-ne128.false c.if-room-vertices.false
