-- `solid_segments::shared::put_run` meets its contract.
use native.Mathlib.Omega.{arith}
use Rattle.solid_segments.proofs.PlaceLaws.{SideAt, lent_still, side_room, side_within, vertex_room, next_below, placed_more}
use Rattle.solid_segments.proofs.shared.put_run.Goals as goal

pub put_side-requires : goal.put_side-requires
put_side-requires c =
    let side : SideAt c.args.file.now c.loop-s.mem c.args.vertices c.args.p
    c.read_run-run.result.start c.read_run-run.result.end c.loop-s.s = record {
      inside = c.requires.lent_2;
      lent = lent_still c.requires.lent_1 c.loop-s.auto.mem;
      run = c.read_run-run.ensures;
      from = c.loop-s.auto.s;
      before = c.loop-s-test.true;
    } in
    record {
      vec_within_1 = side_within side;
      vec_within_2 = vertex_room side;
      s_in_bounds_1 = side_room side;
      s_in_bounds_2 = omega (arith, c.next_vertex.ensures, next_below side, side.run.few);
    }

pub loop-s-preserved : goal.loop-s-preserved
loop-s-preserved c =
    let side : SideAt c.args.file.now c.loop-s.mem c.args.vertices c.args.p
    c.read_run-run.result.start c.read_run-run.result.end c.loop-s.s = record {
      inside = c.requires.lent_2;
      lent = lent_still c.requires.lent_1 c.loop-s.auto.mem;
      run = c.read_run-run.ensures;
      from = c.loop-s.auto.s;
      before = c.loop-s-test.true;
    } in
    placed_more side _ _ c.next_vertex.ensures c.put_side.ensures c.loop-s.invariant
