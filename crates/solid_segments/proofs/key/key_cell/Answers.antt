-- `solid_segments::key::key_cell` meets its contract.
use mathlib.Core.Path.{ap, ◌∙◌}
use Prim.Native.Nat.{◌≤◌}
use lib.IntN.{nat_abs}
use lib.Dec.{lit<}
use Rattle.solid_segments.specs.Key.{segment_scale, key_part}
use Rattle.solid_segments.specs.Work.{from_zero_of, key_cell}
use Rattle.solid_segments.proofs.KeyLaws.{segment_key_lem, rounded_small, sum_fits, cast_fits, cast_is}
use Rattle.solid_segments.proofs.key.key_cell.Goals as goal

pub overflow_add-result : goal.overflow_add-result
overflow_add-result c =
    let small : nat_abs c.round_i64-whole.result ≤ 100000000 = let x = c.args.x in rounded_small segment_scale x c.round_i64-whole.result 100000000 (segment_key_lem x c.requires) c.round_i64-whole.ensures in sum_fits c.round_i64-whole.result 100000000 small (lit< tt)

pub overflow_cast-result : goal.overflow_cast-result
overflow_cast-result c =
    let small : nat_abs c.round_i64-whole.result ≤ 100000000 = let x = c.args.x in rounded_small segment_scale x c.round_i64-whole.result 100000000 (segment_key_lem x c.requires) c.round_i64-whole.ensures in cast_fits c.round_i64-whole.result 100000000 small (lit< tt)

pub returns : goal.returns
unfolding key_cell key_part
returns c =
    let small : nat_abs c.round_i64-whole.result ≤ 100000000 = let x = c.args.x in rounded_small segment_scale x c.round_i64-whole.result 100000000 (segment_key_lem x c.requires) c.round_i64-whole.ensures in cast_is c.round_i64-whole.result 100000000 small (lit< tt) ∙ ap (from_zero_of 100000000) c.round_i64-whole.ensures
