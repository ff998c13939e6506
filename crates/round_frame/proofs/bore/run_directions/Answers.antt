-- `round_frame::bore::run_directions` meets its contract.
use Prim.Native.Nat.{◌+◌, ◌<◌}
use native.Mathlib.Omega.{arith}
use Rattle.file_part.specs.Layout.{vertex_count_of}
use Rattle.file_ok.proofs.ReadableLaws.{readable_counts, readable_vertex, readable_vertex_room}
use Rattle.round_frame.proofs.BoreLaws.{run_none, run_more, run_all, corner_within}
use Rattle.round_frame.proofs.bore.run_directions.Goals as goal

pub loop-k-init : goal.loop-k-init
loop-k-init c = run_none _ _ _ _ _

pub overflow_add-first : goal.overflow_add-first
overflow_add-first c =
    let inside : c.args.first + c.loop-k.k < vertex_count_of c.args.file.now = omega (arith, c.loop-k-test.true, c.requires.fact_2) in omega (arith, inside, (readable_counts _ c.requires.fact_1).0)

pub corner-requires : goal.corner-requires
corner-requires c =
    let inside : c.args.first + c.loop-k.k < vertex_count_of c.args.file.now = omega (arith, c.loop-k-test.true, c.requires.fact_2) in
    let readable = c.requires.fact_1 in
    record {
      fact_1 = readable_vertex_room _ readable _ inside;
      fact_2 = readable_vertex _ readable _ inside;
    }

pub put_directions-m-requires : goal.put_directions-m-requires
put_directions-m-requires c =
    let inside : c.args.first + c.loop-k.k < vertex_count_of c.args.file.now = omega (arith, c.loop-k-test.true, c.requires.fact_2) in
    let l = c.loop-k.invariant in
    record {
      fact_1 = omega (arith, c.loop-k-test.true, l.few, l.long, c.requires.fact_3);
      fact_2 = c.requires.fact_4;
      fact_3 = corner_within _ _ _ c.requires.fact_1 inside c.corner.ensures;
    }

pub loop-k-preserved : goal.loop-k-preserved
loop-k-preserved c = run_more _ _ _ _ _ _ _ _ _ _ _ c.corner.ensures c.loop-k.invariant c.put_directions-m.ensures

pub returns : goal.returns
returns c = run_all _ _ _ _ _ _ _ _ _ c.loop-k.auto.k-end c.loop-k-test.false c.loop-k.invariant
