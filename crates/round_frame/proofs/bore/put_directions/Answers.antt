-- `round_frame::bore::put_directions` meets its contract.
use mathlib.Core.Path.{◌≡◌}
use Rattle.math.specs.Vector.{minus, dot_of}
use Rattle.round_hole.specs.Work.{Packable}
use Rattle.round_frame.proofs.FrameLaws.{vertex_packable}
use Rattle.round_frame.proofs.BoreLaws.{vertex_none, vertex_put}
use Rattle.round_frame.proofs.bore.put_directions.Goals as goal

pub returns-then-length : goal.returns-then-length
returns-then-length c =
    let at_x : c.dot-x.result ≡ dot_of (minus c.args.vertex c.args.frame.origin) c.args.frame.x = cc in
    let at_y : c.dot-y.result ≡ dot_of (minus c.args.vertex c.args.frame.origin) c.args.frame.y = cc in vertex_none _ _ _ _ _ _ _ at_x at_y c.length-length.ensures c.if-length.true

pub pack-requires : goal.pack-requires
pack-requires c =
    let at_x : c.dot-x.result ≡ dot_of (minus c.args.vertex c.args.frame.origin) c.args.frame.x = cc in
    let at_y : c.dot-y.result ≡ dot_of (minus c.args.vertex c.args.frame.origin) c.args.frame.y = cc in
    let packable : Packable c.direction.result = vertex_packable _ _ _ _ _ _ c.requires.fact_2 c.requires.fact_3 at_x at_y c.length-length.ensures c.if-length.false c.direction.ensures in packable

pub returns : goal.returns
returns c =
    let at_x : c.dot-x.result ≡ dot_of (minus c.args.vertex c.args.frame.origin) c.args.frame.x = cc in
    let at_y : c.dot-y.result ≡ dot_of (minus c.args.vertex c.args.frame.origin) c.args.frame.y = cc in
    let packable : Packable c.direction.result = vertex_packable _ _ _ _ _ _ c.requires.fact_2 c.requires.fact_3 at_x at_y c.length-length.ensures c.if-length.false c.direction.ensures in
    vertex_put _ _ _ _ _ _ _ at_x at_y c.length-length.ensures _ _ c.if-length.false c.requires.fact_1 packable c.direction.ensures
    c.pack.ensures
