-- `sheet_bends::bend_of` meets its contract.
use Rattle.round_all.proofs.PutLaws.{face_low}
use Rattle.round_all.proofs.RoundLaws.{kind_at}
use Rattle.sheet_bends.proofs.BendLaws.{inside_round}
use Rattle.sheet_bends.proofs.KindLaws.{bend_inner, inside_is, inside_not, bend_outer}
use native.Mathlib.Omega.{arith}
use Rattle.sheet_bends.proofs.bend_of.Goals as goal

pub returns-then-words-kinds-ne2 : goal.returns-then-words-kinds-ne2
returns-then-words-kinds-ne2 c = let low = face_low _ _ c.args.f c.requires.standing_1.placed (omega (arith, c.requires.standing_3, c.requires.f_lt_n)) in bend_outer _ _ _ (inside_not _ _ _ (kind_at _ c.args.at c.args.words.now c.args.reals.now c.args.f c.requires.standing_1.placed.laid c.requires.standing_2 (omega (arith, c.requires.standing_3, c.requires.f_lt_n)) low.0) c.if-words-kinds-ne2.true)

pub outside_of-requires : goal.outside_of-requires
outside_of-requires c = let low = face_low _ _ c.args.f c.requires.standing_1.placed (omega (arith, c.requires.standing_3, c.requires.f_lt_n)) in
    record {
      standing_1 = c.requires.standing_1;
      standing_2 = c.requires.standing_2;
      standing_3 = c.requires.standing_3;
      f_lt_n_1 = c.requires.f_lt_n;
      f_lt_n_2 = inside_round _ _ (inside_is _ _ _ (kind_at _ c.args.at c.args.words.now c.args.reals.now c.args.f c.requires.standing_1.placed.laid c.requires.standing_2 (omega (arith, c.requires.standing_3, c.requires.f_lt_n)) low.0) c.if-words-kinds-ne2.false);
    }

pub returns : goal.returns
returns c = let low = face_low _ _ c.args.f c.requires.standing_1.placed (omega (arith, c.requires.standing_3, c.requires.f_lt_n)) in bend_inner _ _ _ _ (inside_is _ _ _ (kind_at _ c.args.at c.args.words.now c.args.reals.now c.args.f c.requires.standing_1.placed.laid c.requires.standing_2 (omega (arith, c.requires.standing_3, c.requires.f_lt_n)) low.0) c.if-words-kinds-ne2.false) c.outside_of.ensures
