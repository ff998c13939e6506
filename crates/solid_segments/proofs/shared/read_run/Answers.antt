-- `solid_segments::shared::read_run` meets its contract.
use Prim.Native.Nat.{◌+◌}
use native.Mathlib.Omega.{arith}
use Rattle.solid_segments.specs.Work.{RunAt}
use Rattle.solid_segments.proofs.PlaceLaws.{entry_room, entry_small, run_at}
use Rattle.solid_segments.proofs.shared.read_run.Goals as goal

pub entry_at-at-requires : goal.entry_at-at-requires
entry_at-at-requires c =
    let small = entry_small c.args.file.now _ _ c.requires.fact_1 c.requires.fact_2 c.requires.fact_3 in
    (small.0, omega (arith, small.1))

pub first_vertex-first-requires : goal.first_vertex-first-requires
first_vertex-first-requires c =
    entry_room _ _ _ c.requires.fact_1 c.requires.fact_2 c.requires.fact_3 _ c.entry_at-at.ensures

pub run_length-requires : goal.run_length-requires
run_length-requires c =
    entry_room _ _ _ c.requires.fact_1 c.requires.fact_2 c.requires.fact_3 _ c.entry_at-at.ensures

pub overflow_add-result : goal.overflow_add-result
overflow_add-result c =
    let run : RunAt c.args.file.now c.args.vertices c.args.p
    c.first_vertex-first.result (c.first_vertex-first.result + c.run_length.result) = run_at _ _ _ c.requires.fact_1 c.requires.fact_2 c.requires.fact_3
    _ _ _ c.entry_at-at.ensures c.first_vertex-first.ensures c.run_length.ensures.fact_1 in omega (arith, run.below, run.few)

pub returns : goal.returns
returns c =
    let run : RunAt c.args.file.now c.args.vertices c.args.p
    c.first_vertex-first.result (c.first_vertex-first.result + c.run_length.result) = run_at _ _ _ c.requires.fact_1 c.requires.fact_2 c.requires.fact_3
    _ _ _ c.entry_at-at.ensures c.first_vertex-first.ensures c.run_length.ensures.fact_1 in run
