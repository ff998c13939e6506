-- `wall_ray::scan::misses` meets its contract: none is struck so far.
use mathlib.Core.Path.{refl, sym}
use mathlib.Core.Bool.{true, false}
use native.Mathlib.Omega.{arith}
use Rattle.solid_faces.proofs.BodyLaws.{readable_long, polygons_are, checked_readable}
use Rattle.wall_ray.specs.Strike.{struck, hit_time}
use Rattle.wall_ray.specs.Nearest.{hit_of}
use Rattle.wall_ray.proofs.TryLaws.{tried_nothing, tried_struck}
use Rattle.wall_ray.proofs.ScanLaws.{none_yet, none_more, none_left, some_struck}
use Rattle.wall_ray.proofs.scan.misses.Goals as goal

pub vertex_count-vertices-requires : goal.vertex_count-vertices-requires
vertex_count-vertices-requires c = readable_long _ (checked_readable _ c.requires.fact_1)

pub polygon_count-q-end-requires : goal.polygon_count-q-end-requires
polygon_count-q-end-requires c = readable_long _ (checked_readable _ c.requires.fact_1)

pub loop-q-init : goal.loop-q-init
loop-q-init c = none_yet _ _

pub try_one-h-requires : goal.try_one-h-requires
try_one-h-requires c =
    record {
      checked_1 = c.requires.fact_1;
      checked_2 = c.requires.fact_2;
      vertices_value_1 = c.vertex_count-vertices.ensures;
      vertices_value_2 = c.inverse-inv.ensures;
      vertices_value_3 = omega (arith, c.loop-q-test.true, c.polygon_count-q-end.ensures);
    }

pub returns-then-is_some : goal.returns-then-is_some
unfolding hit_of
returns-then-is_some c =
    some_struck (struck _ _) (hit_time _ _) _ _ true
    (omega (arith, c.loop-q-test.true, polygons_are _ _ c.polygon_count-q-end.ensures)) c.loop-q.invariant
    (sym (tried_struck _ _ _ _ _ c.try_one-h.ensures c.is_some.ensures c.if-is_some.true)) refl

pub loop-q-preserved : goal.loop-q-preserved
loop-q-preserved c =
    none_more _ _ _ false c.loop-q.invariant
    (sym (tried_nothing _ _ _ _ _ c.try_one-h.ensures c.is_some.ensures c.if-is_some.false)) refl

pub returns : goal.returns
unfolding hit_of
returns c = none_left _ _ _ _ (polygons_are _ _ c.polygon_count-q-end.ensures) c.loop-q.auto.q-end c.loop-q-test.false c.loop-q.invariant
