-- `solid_bodies::corner::key_number` meets its contract.
use mathlib.Core.Path.{ap, ◌∙◌}
use Prim.Native.Nat.{◌≤◌}
use lib.IntN.{nat_abs}
use lib.Dec.{lit<}
use Rattle.solid_segments.specs.Key.{body_scale, key_part}
use Rattle.solid_segments.specs.Work.{from_zero_of, key_cell}
use Rattle.solid_segments.proofs.KeyLaws.{body_key, rounded_small, sum_fits, cast_fits, cast_is}
use Rattle.solid_bodies.proofs.corner.key_number.Goals as goal

pub overflow_add-result : goal.overflow_add-result
overflow_add-result c =
    let small : nat_abs c.round_i64.result ≤ 1000000000 = let x = c.args.x in rounded_small body_scale x c.round_i64.result 1000000000 (body_key x c.requires) c.round_i64.ensures in sum_fits c.round_i64.result 1000000000 small (lit< tt)

pub overflow_cast-result : goal.overflow_cast-result
overflow_cast-result c =
    let small : nat_abs c.round_i64.result ≤ 1000000000 = let x = c.args.x in rounded_small body_scale x c.round_i64.result 1000000000 (body_key x c.requires) c.round_i64.ensures in cast_fits c.round_i64.result 1000000000 small (lit< tt)

pub returns : goal.returns
unfolding key_cell key_part
returns c =
    let small : nat_abs c.round_i64.result ≤ 1000000000 = let x = c.args.x in rounded_small body_scale x c.round_i64.result 1000000000 (body_key x c.requires) c.round_i64.ensures in cast_is c.round_i64.result 1000000000 small (lit< tt) ∙ ap (from_zero_of 1000000000) c.round_i64.ensures
