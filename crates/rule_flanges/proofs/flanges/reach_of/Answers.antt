-- `rule_flanges::flanges::reach_of` meets its contract: over the polygons of its face, from the first on.
use Rattle.solid_flat.proofs.FlatLaws.{first_fits, first_place}
use Rattle.solid_tours.proofs.PlaceLaws.{readable}
use Rattle.round_all.proofs.PutLaws.{first_begins}
use Rattle.rule_flanges.proofs.FlangeLaws.{line_room, reach_is}
use native.Mathlib.Omega.{arith}
use Rattle.rule_flanges.proofs.flanges.reach_of.Goals as goal

pub overflow_add-at : goal.overflow_add-at
overflow_add-at c = omega (arith, first_fits _ _ _ _ c.requires.fact_1.ordered.standing _ c.requires.fact_2.face)

pub cell-first-requires : goal.cell-first-requires
cell-first-requires c = first_place _ _ _ _ c.requires.fact_1.ordered.standing _ c.requires.fact_2.face

pub round_at-round-requires : goal.round_at-round-requires
round_at-round-requires c =
    record {
      standing_1 = c.requires.fact_1.ordered.standing;
      standing_2 = c.requires.fact_1.rounds;
      f_bound_1 = c.requires.fact_2.bend;
      f_bound_2 = c.requires.fact_2.round;
    }

pub vertex-start-requires : goal.vertex-start-requires
vertex-start-requires c = line_room _ _ (readable _ _ _ _ c.requires.fact_1.ordered) c.requires.fact_2

pub offset_bounds-words-chain : goal.offset_bounds-words-chain
offset_bounds-words-chain c = omega (arith, c.requires.fact_1.ordered.standing.placed.laid, c.requires.fact_1.ordered.standing.words_room)

pub slice_bounds-face_reach-count : goal.slice_bounds-face_reach-count
slice_bounds-face_reach-count c = omega (arith, c.requires.fact_1.ordered.standing.placed.laid, c.requires.fact_1.ordered.standing.words_room)

pub slice_bounds-face_reach-start : goal.slice_bounds-face_reach-start
slice_bounds-face_reach-start c = omega (arith, c.requires.fact_1.ordered.standing.placed.laid, c.requires.fact_1.ordered.standing.words_room)

pub slice_bounds-face_reach-end : goal.slice_bounds-face_reach-end
slice_bounds-face_reach-end c = omega (arith, c.requires.fact_1.ordered.standing.placed.laid, c.requires.fact_1.ordered.standing.words_room)

pub face_reach-requires : goal.face_reach-requires
face_reach-requires c = let b = first_begins _ _ _ _ c.requires.fact_1.ordered.standing _ _ c.requires.fact_2.face c.cell-first.ensures in
    record {
      readable_1 = readable _ _ _ _ c.requires.fact_1.ordered;
      readable_2 = c.requires.fact_1.ordered.standing.the_words.chain;
      first_bound_1 = b.below;
      first_bound_2 = b.new;
    }

pub returns : goal.returns
returns c = reach_is _ _ _ _ _ _ (first_begins _ _ _ _ c.requires.fact_1.ordered.standing _ _ c.requires.fact_2.face c.cell-first.ensures).number c.round_at-round.ensures c.vertex-start.ensures c.face_reach.ensures
