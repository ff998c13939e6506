-- `rule_holes::nearest::with_group` meets its contract: the hole itself and the flat faces around it are left out, and what is known to be no nearer.
use mathlib.Core.Path.{refl}
use Rattle.rule_holes.proofs.NearestLaws.{group_own, group_marked, group_farther, group_nearer, nearer_kept, mark_bytes}
use native.Mathlib.Omega.{arith}
use Rattle.rule_holes.proofs.nearest.with_group.Goals as goal

pub returns-then-other-hole : goal.returns-then-other-hole
returns-then-other-hole c =
    record {
      fact_1 = group_own _ _ _ c.requires.plates_1 _ _ c.requires.edges_ordered_3.other_below _ c.if-other-hole.true;
      fact_2 = c.requires.plates_2;
    }

pub offset_bounds-plates-other : goal.offset_bounds-plates-other
offset_bounds-plates-other c = omega (arith, mark_bytes _ _ _ _ c.requires.edges_ordered_1 _ c.requires.edges_ordered_3.other_below)

pub bounds-plates-other : goal.bounds-plates-other
bounds-plates-other c = omega (arith, c.requires.edges_ordered_3.other_below, c.requires.plates_1.long)

pub returns-then-plates-other-eq1 : goal.returns-then-plates-other-eq1
returns-then-plates-other-eq1 c =
    record {
      fact_1 = group_marked _ _ _ c.requires.plates_1 _ _ c.requires.edges_ordered_3.other_below _ c.if-plates-other-eq1.true;
      fact_2 = c.requires.plates_2;
    }

pub is_no_nearer-requires : goal.is_no_nearer-requires
is_no_nearer-requires c =
    record {
      fact_1 = c.requires.edges_ordered_1;
      fact_2 = c.requires.edges_ordered_2;
      fact_3 = c.requires.edges_ordered_3;
    }

pub returns-then-is_no_nearer : goal.returns-then-is_no_nearer
returns-then-is_no_nearer c =
    record {
      fact_1 = group_farther _ _ _ c.requires.plates_1 _ _ c.requires.edges_ordered_3.other_below _ _ refl refl c.if-other-hole.false c.if-plates-other-eq1.false (c.is_no_nearer.ensures c.if-is_no_nearer.true);
      fact_2 = c.requires.plates_2;
    }

pub between_distance-requires : goal.between_distance-requires
between_distance-requires c =
    record {
      fact_1 = c.requires.edges_ordered_1;
      fact_2 = c.requires.edges_ordered_3;
    }

pub returns : goal.returns
returns c =
    record {
      fact_1 = group_nearer _ _ _ c.requires.plates_1 _ _ c.requires.edges_ordered_3.other_below _ _ _ c.if-other-hole.false c.if-plates-other-eq1.false c.between_distance.ensures c.nearer.ensures;
      fact_2 = nearer_kept _ _ _ c.requires.edges_ordered_3.other_below _ _ c.nearer.ensures c.requires.plates_2;
    }
