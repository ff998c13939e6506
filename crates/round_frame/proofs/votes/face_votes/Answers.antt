-- `round_frame::votes::face_votes` meets its contract.
use Rattle.file_ok.proofs.ReadableLaws.{readable_counts}
use Rattle.solid_faces.proofs.BodyLaws.{readable_long}
use Rattle.solid_faces.proofs.ChainLaws.{on_first, on_next, on_rises}
use Rattle.round_frame.specs.Polygons.{votes_to}
use Rattle.round_frame.proofs.RunLaws.{polygon_low}
use Rattle.round_frame.proofs.ChoiceLaws.{to_all, votes_none, votes_next}
use native.Mathlib.Omega.{arith}
use Rattle.round_frame.proofs.votes.face_votes.Goals as goal

pub polygon_count-p-requires : goal.polygon_count-p-requires
polygon_count-p-requires c = readable_long _ c.requires.readable_1

pub vertex_count-v-requires : goal.vertex_count-v-requires
vertex_count-v-requires c = readable_long _ c.requires.readable_1

pub loop-q-init : goal.loop-q-init
loop-q-init c = (on_first _ _ c.requires.first_bound_1, votes_none _ _ _ c.requires.first_bound_2)

pub polygon_vote-votes-requires : goal.polygon_vote-votes-requires
polygon_vote-votes-requires c =
    record {
      readable_1 = c.requires.readable_1;
      readable_2 = c.vertex_count-v.ensures;
      readable_3 = polygon_low _ _ _ c.polygon_count-p.ensures c.loop-q-test.true;
      kept_planes_1 = c.requires.kept_planes_1;
      kept_planes_2 = c.requires.kept_planes_2;
    }

pub offset_bounds-chain-q : goal.offset_bounds-chain-q
offset_bounds-chain-q c =
    omega (arith, c.loop-q-test.true, c.polygon_count-p.ensures, (readable_counts _ c.requires.readable_1).1)

pub bounds-chain-q : goal.bounds-chain-q
bounds-chain-q c =
    omega (arith, polygon_low _ _ _ c.polygon_count-p.ensures c.loop-q-test.true, c.requires.readable_2.long)

pub loop-q-smaller : goal.loop-q-smaller
loop-q-smaller c =
    omega (arith, on_rises _ _ _ _ c.requires.readable_2 c.loop-q.invariant.0 (polygon_low _ _ _ c.polygon_count-p.ensures c.loop-q-test.true), c.loop-q-test.true)

pub loop-q-preserved : goal.loop-q-preserved
loop-q-preserved c =
    (on_next _ _ _ _ c.requires.readable_2 c.loop-q.invariant.0 (polygon_low _ _ _ c.polygon_count-p.ensures c.loop-q-test.true), votes_next _ _ _ _ c.requires.readable_2 c.loop-q.invariant.0 (polygon_low _ _ _ c.polygon_count-p.ensures c.loop-q-test.true) _ _ _ c.loop-q.invariant.1 c.polygon_vote-votes.ensures)

pub returns : goal.returns
returns c = to_all _ (votes_to _ _ _) _ _ _ c.polygon_count-p.ensures c.loop-q.invariant.0.low c.loop-q-test.false c.loop-q.invariant.1
