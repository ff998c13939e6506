-- `rule_flanges::legs::add_leg` meets its contract: its three cells are written after those of the others.
use mathlib.Core.Path.{sym, ◌∙◌}
use Rattle.scratch.proofs.StandingLaws.{placed_vertices}
use Rattle.round_all.proofs.PutLaws.{face_low}
use Rattle.rule_flanges.proofs.LegLaws.{leg_seen, leg_put, put_long, second_room, third_room}
use native.Mathlib.Omega.{arith}
use Rattle.rule_flanges.proofs.legs.add_leg.Goals as goal

pub is_seen-requires : goal.is_seen-requires
is_seen-requires c =
    record {
      fact_1 = c.requires.fact_1;
      fact_2 = c.requires.fact_2;
      fact_3 = c.requires.fact_3.face;
    }

pub returns-then-is_seen : goal.returns-then-is_seen
returns-then-is_seen c = leg_seen _ _ _ c.requires.fact_2 _ (sym c.is_seen.ensures ∙ c.if-is_seen.true)

pub overflow_cast-legs : goal.overflow_cast-legs
overflow_cast-legs c = omega (arith, face_low _ _ _ c.requires.fact_1.placed c.requires.fact_3.bend)

pub overflow_cast-legs-2 : goal.overflow_cast-legs-2
overflow_cast-legs-2 c = omega (arith, face_low _ _ _ c.requires.fact_1.placed c.requires.fact_3.face)

pub bounds-legs-n-2 : goal.bounds-legs-n-2
bounds-legs-n-2 c = second_room _ _ _ c.requires.fact_2 _ c.requires.fact_3 c.requires.fact_4

pub overflow_cast-legs-3 : goal.overflow_cast-legs-3
overflow_cast-legs-3 c = omega (arith, c.requires.fact_3.line, placed_vertices _ _ c.requires.fact_1.placed, c.requires.fact_1.placed.laid)

pub bounds-legs-n-3 : goal.bounds-legs-n-3
bounds-legs-n-3 c = third_room _ _ _ c.requires.fact_2 _ c.requires.fact_3 c.requires.fact_4

pub shape_of-legs : goal.shape_of-legs
shape_of-legs c = put_long _ _ _ c.requires.fact_2 _ c.requires.fact_3 c.requires.fact_4

pub returns : goal.returns
returns c = leg_put _ _ _ c.requires.fact_2 _ c.requires.fact_3 c.requires.fact_4 (sym c.is_seen.ensures ∙ c.if-is_seen.false)
