-- `wall_samples::cast::reading_from` meets its contract.
use mathlib.Core.Path.{sym, ap, ◌∙◌, subst}
use Rattle.scratch.proofs.StandingLaws.{placed_polygons}
use Rattle.wall_samples.specs.Work.{HitBelow, back_hit}
use Rattle.wall_samples.proofs.CastLaws.{plane_room, back_is, hit_below, hit_at, hit_back, hit_away, hit_nothing, hit_none, cast_is}
use Rattle.wall_samples.proofs.cast.reading_from.Goals as goal

pub faces_back-requires : goal.faces_back-requires
faces_back-requires c =
    let h = c.requires.fact_1 in
    let below = hit_at _ _ _ (hit_below _ _ _ _ (placed_polygons _ _ h.placed) c.raycast.ensures) c.in_ok-hit.was in
    record {
      fact_1 = plane_room _ _ _ _ h _ c.requires.fact_2;
      fact_2 = plane_room _ _ _ _ h _ below;
    }

pub returns-then-faces_back : goal.returns-then-faces_back
returns-then-faces_back c =
    let h = c.requires.fact_1 in
    let below = hit_at _ _ _ (hit_below _ _ _ _ (placed_polygons _ _ h.placed) c.raycast.ensures) c.in_ok-hit.was in
    let back = back_is _ _ _ _ h _ _ _ c.requires.fact_2 below c.faces_back.ensures in
    let is = c.in_ok-hit.was in
    record {
      value = cast_is _ _ _ _ _ c.ray_of.ensures c.raycast.ensures (hit_back _ _ _ _ back c.if-faces_back.true ∙ ap (back_hit _ _) (sym is));
      hit_below = subst (HitBelow _) is (hit_below _ _ _ _ (placed_polygons _ _ h.placed) c.raycast.ensures);
    }

pub returns : goal.returns
returns c =
    let h = c.requires.fact_1 in
    let below = hit_at _ _ _ (hit_below _ _ _ _ (placed_polygons _ _ h.placed) c.raycast.ensures) c.in_ok-hit.was in
    let back = back_is _ _ _ _ h _ _ _ c.requires.fact_2 below c.faces_back.ensures in
    let is = c.in_ok-hit.was in
    record {
      value = cast_is _ _ _ _ _ c.ray_of.ensures c.raycast.ensures (hit_away _ _ _ _ back c.if-faces_back.false ∙ ap (back_hit _ _) (sym is));
      hit_below = hit_none _;
    }

pub returns-in_err-hit : goal.returns-in_err-hit
returns-in_err-hit c =
    rw c.from_residual.ensures
    (record {
      value = cast_is _ _ _ _ _ c.ray_of.ensures c.raycast.ensures (hit_nothing _ _ ∙ ap (back_hit _ _) (sym c.in_err-hit.was));
      hit_below = hit_none _;
    })
