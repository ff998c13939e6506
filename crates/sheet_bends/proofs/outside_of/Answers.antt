-- `sheet_bends::outside_of` meets its contract: none of the faces that are passed is outside.
use mathlib.Core.Path.{◌∙◌}
use Rattle.round_all.proofs.PutLaws.{face_low}
use Rattle.round_all.proofs.RoundLaws.{kind_at}
use Rattle.sheet_bends.proofs.KindLaws.{convex_round, outside_not, outside_is, none_more, outside_some, outside_none}
use native.Mathlib.Omega.{arith}
use Rattle.sheet_bends.proofs.outside_of.Goals as goal

pub loop-g-preserved-then-words-kinds-ne1 : goal.loop-g-preserved-then-words-kinds-ne1
loop-g-preserved-then-words-kinds-ne1 c = let low = face_low _ _ c.loop-g.g c.requires.standing_1.placed (omega (arith, c.loop-g-test.true, c.requires.standing_3)) in none_more _ _ c.loop-g.invariant (outside_not _ _ _ _ _ (kind_at _ c.args.at c.args.words.now c.args.reals.now c.loop-g.g c.requires.standing_1.placed.laid c.requires.standing_2 (omega (arith, c.loop-g-test.true, c.requires.standing_3)) low.0) c.if-words-kinds-ne1.true)

pub round_at-requires : goal.round_at-requires
round_at-requires c = let low = face_low _ _ c.loop-g.g c.requires.standing_1.placed (omega (arith, c.loop-g-test.true, c.requires.standing_3)) in
    record {
      standing_1 = c.requires.standing_1;
      standing_2 = c.requires.standing_2;
      f_bound_1 = omega (arith, c.loop-g-test.true, c.requires.standing_3);
      f_bound_2 = convex_round _ _ _ (kind_at _ c.args.at c.args.words.now c.args.reals.now c.loop-g.g c.requires.standing_1.placed.laid c.requires.standing_2 (omega (arith, c.loop-g-test.true, c.requires.standing_3)) low.0) c.if-words-kinds-ne1.false;
    }

pub returns-then-is_around : goal.returns-then-is_around
returns-then-is_around c = let low = face_low _ _ c.loop-g.g c.requires.standing_1.placed (omega (arith, c.loop-g-test.true, c.requires.standing_3)) in outside_some _ _ _ _ _ c.requires.standing_3 c.loop-g-test.true c.loop-g.invariant ((outside_is _ _ _ _ _ _ _ _ (kind_at _ c.args.at c.args.words.now c.args.reals.now c.loop-g.g c.requires.standing_1.placed.laid c.requires.standing_2 (omega (arith, c.loop-g-test.true, c.requires.standing_3)) low.0) c.if-words-kinds-ne1.false c.round_at-inner.ensures c.round_at.ensures c.is_around.ensures) ∙ c.if-is_around.true)

pub loop-g-preserved : goal.loop-g-preserved
loop-g-preserved c = let low = face_low _ _ c.loop-g.g c.requires.standing_1.placed (omega (arith, c.loop-g-test.true, c.requires.standing_3)) in none_more _ _ c.loop-g.invariant ((outside_is _ _ _ _ _ _ _ _ (kind_at _ c.args.at c.args.words.now c.args.reals.now c.loop-g.g c.requires.standing_1.placed.laid c.requires.standing_2 (omega (arith, c.loop-g-test.true, c.requires.standing_3)) low.0) c.if-words-kinds-ne1.false c.round_at-inner.ensures c.round_at.ensures c.is_around.ensures) ∙ c.if-is_around.false)

pub returns : goal.returns
returns c = outside_none _ _ _ _ _ c.requires.standing_3 c.loop-g-test.false c.loop-g.invariant
