-- `rule_holes::nearest::put_plate` meets its contract: a mark where the face is flat.
use Rattle.solid_faces.proofs.BodyLaws.{checked_faces}
use Rattle.rule_holes.proofs.ChoiceLaws.{chosen_first, chosen_second}
use native.Mathlib.Omega.{arith}
use Rattle.rule_holes.proofs.nearest.put_plate.Goals as goal

pub is_flat-requires : goal.is_flat-requires
is_flat-requires c =
    let g = c.requires in
    record {
      fact_1 = g.fact_1;
      fact_2 = g.fact_2;
    }

pub offset_bounds-plates-g : goal.offset_bounds-plates-g
offset_bounds-plates-g c =
    let g = c.requires in
    omega (arith, g.fact_2, checked_faces _ g.fact_1.placed.checked)

pub bounds-plates-g : goal.bounds-plates-g
bounds-plates-g c = c.requires.fact_3

pub returns-then-is_flat : goal.returns-then-is_flat
returns-then-is_flat c = chosen_first _ _ c.is_flat.ensures c.if-is_flat.true

pub returns-else-is_flat : goal.returns-else-is_flat
returns-else-is_flat c = chosen_second _ _ c.is_flat.ensures c.if-is_flat.false
