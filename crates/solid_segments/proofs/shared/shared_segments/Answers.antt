-- `solid_segments::shared::shared_segments` meets its contract.
use mathlib.Core.Path.{sym, ◌∙◌}
use native.Mathlib.Omega.{arith}
use Rattle.file_part.specs.Part.{part_of}
use Rattle.file_part.proofs.PartLaws.{part_vertices}
use Rattle.file_ok.proofs.ReadableLaws.{readable_length, readable_counts}
use Rattle.solid_segments.specs.Work.{Lent, PairedSides}
use Rattle.solid_segments.proofs.PlaceLaws.{lent_of, lent_still}
use Rattle.solid_segments.proofs.PackLaws.{packed_shared}
use Rattle.solid_segments.proofs.SharedLaws.{placed_sides, all_shared}
use Rattle.solid_segments.proofs.shared.shared_segments.Goals as goal

pub vertex_count-vertices-requires : goal.vertex_count-vertices-requires
vertex_count-vertices-requires c = omega (arith, readable_length c.args.file.now c.requires.fact_1)

pub polygon_count-polygons-requires : goal.polygon_count-polygons-requires
polygon_count-polygons-requires c =
    omega (arith, readable_length c.args.file.now c.requires.fact_1)

pub pair_sides-requires : goal.pair_sides-requires
pair_sides-requires c =
    let lent : Lent c.args.file.now c.args.mem.now c.vertex_count-vertices.result = lent_of c.requires.fact_1 c.requires.fact_2 c.vertex_count-vertices.ensures in
    let lent-after : Lent c.args.file.now c.put_sides.new.mem c.vertex_count-vertices.result = lent_still lent c.put_sides.auto.mem in
    placed_sides _ _ _ lent-after c.put_sides.ensures

pub pack_sides-requires : goal.pack_sides-requires
pack_sides-requires c =
    let lent : Lent c.args.file.now c.args.mem.now c.vertex_count-vertices.result = lent_of c.requires.fact_1 c.requires.fact_2 c.vertex_count-vertices.ensures in
    let lent-after : Lent c.args.file.now c.put_sides.new.mem c.vertex_count-vertices.result = lent_still lent c.put_sides.auto.mem in
    let paired : PairedSides (part_of c.args.file.now) c.put_owners.new.mem = all_shared _ _ _ lent-after c.put_sides.ensures c.pair_sides.new.mem _ c.pair_sides.ensures c.put_owners.ensures
    (c.put_owners.auto.mem ∙ c.pair_sides.auto.mem) in
    let v = c.vertex_count-vertices.ensures in
    record {
      fact_1 = omega (arith, v, paired.long, part_vertices c.args.file.now);
      fact_2 = omega (arith, v, readable_counts c.args.file.now c.requires.fact_1);
    }

pub returns : goal.returns
returns c =
    let lent : Lent c.args.file.now c.args.mem.now c.vertex_count-vertices.result = lent_of c.requires.fact_1 c.requires.fact_2 c.vertex_count-vertices.ensures in
    let lent-after : Lent c.args.file.now c.put_sides.new.mem c.vertex_count-vertices.result = lent_still lent c.put_sides.auto.mem in
    let paired : PairedSides (part_of c.args.file.now) c.put_owners.new.mem = all_shared _ _ _ lent-after c.put_sides.ensures c.pair_sides.new.mem _ c.pair_sides.ensures c.put_owners.ensures
    (c.put_owners.auto.mem ∙ c.pair_sides.auto.mem) in
    let v = c.vertex_count-vertices.ensures in
    packed_shared _ _ _ _ (v ∙ sym (part_vertices _)) paired c.pack_sides.ensures
