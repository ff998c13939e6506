-- `solid_bodies::corner::put_key` meets its contract.
use Prim.Native.Nat.{◌<◌}
use native.Mathlib.Omega.{arith}
use Rattle.math.specs.Size.{VecWithin}
use Rattle.file_part.specs.Layout.{vertex_count_of}
use Rattle.file_ok.proofs.ReadableLaws.{readable_vertex, readable_vertex_room}
use Rattle.solid_bodies.proofs.CornerLaws.{read_within, key_put}
use Rattle.solid_bodies.proofs.corner.put_key.Goals as goal

pub corner-at-requires : goal.corner-at-requires
corner-at-requires c =
    let low : c.args.v < vertex_count_of c.args.file.now = omega (arith, c.requires.fact_2, c.requires.fact_4) in
    record {
      fact_1 = readable_vertex_room _ c.requires.fact_1 c.args.v low;
      fact_2 = readable_vertex _ c.requires.fact_1 c.args.v low;
    }

pub key_number-requires : goal.key_number-requires
key_number-requires c =
    let near : VecWithin c.corner-at.result 10000 = read_within c.args.file.now c.args.n c.args.v c.corner-at.result c.requires.fact_1 c.requires.fact_2 c.requires.fact_4 c.corner-at.ensures in near.x_within

pub key_number-requires-2 : goal.key_number-requires-2
key_number-requires-2 c =
    let near : VecWithin c.corner-at.result 10000 = read_within c.args.file.now c.args.n c.args.v c.corner-at.result c.requires.fact_1 c.requires.fact_2 c.requires.fact_4 c.corner-at.ensures in near.y_within

pub key_number-requires-3 : goal.key_number-requires-3
key_number-requires-3 c =
    let near : VecWithin c.corner-at.result 10000 = read_within c.args.file.now c.args.n c.args.v c.corner-at.result c.requires.fact_1 c.requires.fact_2 c.requires.fact_4 c.corner-at.ensures in near.z_within

pub returns : goal.returns
returns c =
    key_put c.args.file.now c.args.n c.args.v c.args.corners.now c.corner-at.result
    c.key_number.result c.key_number-2.result c.key_number-3.result c.corner-at.ensures
    c.requires.fact_3 c.requires.fact_4 c.key_number.ensures c.key_number-2.ensures c.key_number-3.ensures
