-- `solid_boxes::tree::put_tree` meets its contract.
use mathlib.Core.Path.{sym, ◌∙◌}
use native.Mathlib.Omega.{arith}
use Rattle.file_part.proofs.PartLaws.{part_polygons}
use Rattle.solid_faces.proofs.BodyLaws.{readable_long, checked_readable}
use Rattle.solid_boxes.proofs.OwnLaws.{small_count}
use Rattle.solid_boxes.proofs.BoxLaws.{no_tree}
use Rattle.solid_boxes.proofs.tree.put_tree.Goals as goal

pub vertex_count-vertices-requires : goal.vertex_count-vertices-requires
vertex_count-vertices-requires c = readable_long _ (checked_readable _ c.requires.fact_1)

pub polygon_count-n-requires : goal.polygon_count-n-requires
polygon_count-n-requires c = readable_long _ (checked_readable _ c.requires.fact_1)

pub returns-then-n-eq0 : goal.returns-then-n-eq0
returns-then-n-eq0 c = no_tree _ _ _ (part_polygons _ ∙ sym c.polygon_count-n.ensures ∙ c.if-n-eq0.true) (omega (arith, c.requires.fact_3, c.polygon_count-n.ensures, c.if-n-eq0.true))

pub put_numbers-requires : goal.put_numbers-requires
put_numbers-requires c =
    record {
      fact_1 = omega (arith, c.requires.fact_3, c.polygon_count-n.ensures);
      fact_2 = small_count _ c.requires.fact_1 _ c.polygon_count-n.ensures;
    }

pub put_one-m-requires : goal.put_one-m-requires
put_one-m-requires c =
    record {
      fact_1 = c.put_numbers.ensures.fact_1;
      fact_2 = c.if-n-eq1.true;
      fact_3 = omega (arith, c.if-n-eq1.true, c.requires.fact_3, c.polygon_count-n.ensures, c.put_numbers.ensures.fact_2);
    }

pub put_boxes-requires : goal.put_boxes-requires
put_boxes-requires c =
    record {
      checked_1 = c.requires.fact_1;
      checked_2 = c.vertex_count-vertices.ensures;
      checked_3 = c.polygon_count-n.ensures;
      started_1 = c.put_one-m.ensures.fact_1;
      started_2 = omega (arith, c.put_one-m.ensures.fact_1.few, c.requires.fact_2, c.polygon_count-n.ensures);
      started_3 = omega (arith, c.if-n-eq1.true, c.requires.fact_3, c.polygon_count-n.ensures, c.put_numbers.ensures.fact_2, c.put_one-m.ensures.fact_2);
    }

pub returns-then-n-eq1 : goal.returns-then-n-eq1
returns-then-n-eq1 c = c.put_boxes.ensures.part_tree

pub put_keys-requires : goal.put_keys-requires
put_keys-requires c =
    record {
      fact_1 = c.requires.fact_1;
      fact_2 = c.vertex_count-vertices.ensures;
      fact_3 = c.polygon_count-n.ensures;
      fact_4 = omega (arith, c.requires.fact_2, c.polygon_count-n.ensures);
    }

pub put_starts-m-requires : goal.put_starts-m-requires
put_starts-m-requires c =
    record {
      fact_1 = record { order = c.put_numbers.ensures.fact_1; room = omega (arith, c.requires.fact_2, c.polygon_count-n.ensures, c.put_keys.ensures); few = small_count _ c.requires.fact_1 _ c.polygon_count-n.ensures };
      fact_2 = omega (arith, c.if-n-eq0.false, c.if-n-eq1.false);
      fact_3 = omega (arith, c.if-n-eq0.false, c.if-n-eq1.false, c.requires.fact_3, c.polygon_count-n.ensures, c.put_numbers.ensures.fact_2);
    }

pub put_boxes-requires-2 : goal.put_boxes-requires-2
put_boxes-requires-2 c =
    record {
      checked_1 = c.requires.fact_1;
      checked_2 = c.vertex_count-vertices.ensures;
      checked_3 = c.polygon_count-n.ensures;
      started_1 = c.put_starts-m.ensures.fact_1;
      started_2 = omega (arith, c.put_starts-m.ensures.fact_1.few, c.requires.fact_2, c.polygon_count-n.ensures, c.put_keys.ensures);
      started_3 = omega (arith, c.if-n-eq0.false, c.if-n-eq1.false, c.requires.fact_3, c.polygon_count-n.ensures, c.put_numbers.ensures.fact_2, c.put_starts-m.ensures.fact_2);
    }

pub returns : goal.returns
returns c = c.put_boxes-2.ensures.part_tree
