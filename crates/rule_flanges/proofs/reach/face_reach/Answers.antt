-- `rule_flanges::reach::face_reach` meets its contract: the polygons of the face that are passed.
use Rattle.file_ok.proofs.ReadableLaws.{readable_counts}
use Rattle.solid_faces.proofs.BodyLaws.{readable_long}
use Rattle.solid_faces.proofs.ChainLaws.{on_first, on_next, on_rises}
use Rattle.round_frame.proofs.RunLaws.{polygon_low}
use Rattle.round_frame.proofs.ChoiceLaws.{to_all}
use Rattle.rule_flanges.specs.Flanges.{reach_to}
use Rattle.rule_flanges.proofs.ReachLaws.{reaches_none, reaches_next}
use native.Mathlib.Omega.{arith}
use Rattle.rule_flanges.proofs.reach.face_reach.Goals as goal

pub polygon_count-p-requires : goal.polygon_count-p-requires
polygon_count-p-requires c = readable_long _ c.requires.readable_1

pub vertex_count-v-requires : goal.vertex_count-v-requires
vertex_count-v-requires c = readable_long _ c.requires.readable_1

pub loop-q-init : goal.loop-q-init
loop-q-init c = (on_first _ _ c.requires.first_bound_1, reaches_none _ _ _ _ c.requires.first_bound_2)

pub polygon_reach-reach-requires : goal.polygon_reach-reach-requires
polygon_reach-reach-requires c =
    record {
      fact_1 = c.requires.readable_1;
      fact_2 = c.vertex_count-v.ensures;
      fact_3 = polygon_low _ _ _ c.polygon_count-p.ensures c.loop-q-test.true;
    }

pub offset_bounds-chain-q : goal.offset_bounds-chain-q
offset_bounds-chain-q c = omega (arith, c.loop-q-test.true, c.polygon_count-p.ensures, (readable_counts _ c.requires.readable_1).1)

pub bounds-chain-q : goal.bounds-chain-q
bounds-chain-q c = omega (arith, polygon_low _ _ _ c.polygon_count-p.ensures c.loop-q-test.true, c.requires.readable_2.long)

pub overflow_cast-q : goal.overflow_cast-q
overflow_cast-q c = omega (arith, c.shared_slice_known-in-loop-q-1.given c.loop-q.q)

pub loop-q-smaller : goal.loop-q-smaller
loop-q-smaller c = omega (arith, on_rises _ _ _ _ c.requires.readable_2 c.loop-q.invariant.0 (polygon_low _ _ _ c.polygon_count-p.ensures c.loop-q-test.true), c.loop-q-test.true)

pub loop-q-preserved : goal.loop-q-preserved
loop-q-preserved c = (on_next _ _ _ _ c.requires.readable_2 c.loop-q.invariant.0 (polygon_low _ _ _ c.polygon_count-p.ensures c.loop-q-test.true), reaches_next _ _ _ _ _ _ c.requires.readable_2 c.loop-q.invariant.0 (polygon_low _ _ _ c.polygon_count-p.ensures c.loop-q-test.true) _ _ c.loop-q.invariant.1 c.polygon_reach-reach.ensures)

pub returns : goal.returns
returns c = to_all _ (reach_to _ _ _ _) _ _ _ c.polygon_count-p.ensures c.loop-q.invariant.0.low c.loop-q-test.false c.loop-q.invariant.1
