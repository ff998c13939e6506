-- `solid_bodies::label::bodies` meets its contract.
use native.Mathlib.Omega.{arith}
use Rattle.file_ok.proofs.ReadableLaws.{readable_length}
use Rattle.solid_bodies.proofs.CornerLaws.{memory_put, bodies_are}
use Rattle.solid_bodies.proofs.label.bodies.Goals as goal

pub vertex_count-n-requires : goal.vertex_count-n-requires
vertex_count-n-requires c = omega (arith, readable_length _ c.requires.fact_1)

pub polygon_count-p-requires : goal.polygon_count-p-requires
polygon_count-p-requires c = omega (arith, readable_length _ c.requires.fact_1)

pub join-requires : goal.join-requires
join-requires c =
    memory_put c.args.file.now c.vertex_count-n.result c.polygon_count-p.result c.args.mem.now c.put_corners.new.corners c.requires.fact_1 c.vertex_count-n.ensures c.polygon_count-p.ensures c.requires.fact_2
    c.put_corners.auto.corners c.put_corners.ensures

pub returns : goal.returns
returns c =
    bodies_are c.args.file.now c.vertex_count-n.result c.polygon_count-p.result c.args.mem.now c.put_corners.new.corners c.requires.fact_1 c.vertex_count-n.ensures c.polygon_count-p.ensures c.requires.fact_2
    c.put_corners.auto.corners c.put_corners.ensures c.join.new.mem c.join.ensures
