-- `rule_machining::rounds::put_round_faults` meets its contract: the faults of the faces that are passed are put.
use Rattle.rule_machining.proofs.RoundLaws.{rounds_start, rounds_pass, rounds_next, rounds_end, kind_room, kind_fits, kind_bytes, round_there, round_room}
use native.Mathlib.Omega.{arith}
use Rattle.rule_machining.proofs.rounds.put_round_faults.Goals as goal

pub loop-face-init : goal.loop-face-init
loop-face-init c = (rounds_start _ _ _ _, omega arith)

pub overflow_add-kinds : goal.overflow_add-kinds
overflow_add-kinds c =
    let g = c.requires in
    record { fits = kind_fits _ _ _ _ _ c.loop-face.face g.standing_1 g.standing_2 g.counted_1 c.loop-face-test.true }

pub offset_bounds-words-kinds : goal.offset_bounds-words-kinds
offset_bounds-words-kinds c =
    let g = c.requires in
    record { fits = kind_bytes _ _ _ _ _ c.loop-face.face g.standing_1 g.standing_2 g.counted_1 c.loop-face-test.true }

pub bounds-words-kinds : goal.bounds-words-kinds
bounds-words-kinds c =
    let g = c.requires in
    kind_room _ _ _ _ _ c.loop-face.face g.standing_1 g.standing_2 g.counted_1 c.loop-face-test.true

pub loop-face-preserved-then-words-kinds-eq0 : goal.loop-face-preserved-then-words-kinds-eq0
loop-face-preserved-then-words-kinds-eq0 c =
    let g = c.requires in
    (rounds_pass _ _ _ _ _ c.loop-face.face g.standing_1 g.standing_2 g.counted_1 c.loop-face-test.true c.if-words-kinds-eq0.true c.loop-face.invariant.0, omega (arith, c.loop-face.invariant.1))

pub round_at-requires : goal.round_at-requires
round_at-requires c =
    let g = c.requires in let all = round_there _ _ _ _ _ c.loop-face.face g.standing_1 g.standing_2 g.counted_1 c.loop-face-test.true c.if-words-kinds-eq0.false in record { standing_1 = all.0; standing_2 = all.1.0; f_bound_1 = all.1.1.0; f_bound_2 = all.1.1.1 }

pub put_round-k-requires : goal.put_round-k-requires
put_round-k-requires c =
    let g = c.requires in let all = round_room _ _ _ _ _ c.loop-face.face g.standing_1 g.standing_2 g.counted_1 c.loop-face-test.true c.round_at.result g.counted_2 c.loop-face.invariant.1 c.round_at.ensures in record { fact_1 = all.0; fact_2 = all.1 }

pub loop-face-preserved : goal.loop-face-preserved
loop-face-preserved c =
    let g = c.requires in
    let p = c.put_round-k.ensures in
    (rounds_next _ _ _ _ _ c.loop-face.face g.standing_1 g.standing_2 g.counted_1 c.loop-face-test.true _ c.if-words-kinds-eq0.false c.round_at.ensures c.loop-face.invariant.0 p, omega (arith, c.loop-face.invariant.1, p.few))

pub shape_of-cells : goal.shape_of-cells
shape_of-cells c = c.loop-face.invariant.0.cells_kept.long

pub shape_of-numbers : goal.shape_of-numbers
shape_of-numbers c = c.loop-face.invariant.0.numbers_kept.long

pub returns : goal.returns
returns c =
    let g = c.requires in
    let all = g.counted_1.faces in
    record {
      fact_1 = rounds_end _ (omega (arith, all)) c.loop-face.invariant.0;
      fact_2 = omega (arith, c.loop-face.invariant.1, all);
    }
