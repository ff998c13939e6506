-- `scratch::body::put_reals` meets its contract.
use mathlib.Core.Path.{◌≡◌, sym, ◌∙◌, subst}
use mathlib.Core.List.{List}
use Prim.Native.Nat.{ℕ, ◌-◌}
use lib.ListN.{length}
use lib.Ieee.{Float}
use borrow.Rule.Slice.PartMut.{put_mid}
use Rattle.list_laws.proofs.Regions.{part_length, put_length, part_put}
use Rattle.file_part.specs.Part.{part_of}
use Rattle.solid_faces.specs.Kept.{KeptAreas, KeptPlanes}
use Rattle.scratch.proofs.RealsLaws.{reals_put}
use native.Mathlib.Omega.{arith}
use Rattle.scratch.proofs.body.put_reals.Goals as goal

pub offset_bounds-reals-start : goal.offset_bounds-reals-start
offset_bounds-reals-start c = omega (arith, c.requires.placed_1.laid)

pub slice_bounds-put_planes-count : goal.slice_bounds-put_planes-count
slice_bounds-put_planes-count c = omega (arith, c.requires.placed_1.laid)

pub slice_bounds-put_planes-start : goal.slice_bounds-put_planes-start
slice_bounds-put_planes-start c = omega arith

pub slice_bounds-put_planes-end : goal.slice_bounds-put_planes-end
slice_bounds-put_planes-end c = omega (arith, c.requires.placed_1.laid, c.requires.reals_in_bounds)

pub put_planes-requires : goal.put_planes-requires
put_planes-requires c =
    record {
      fact_1 = c.requires.placed_1.checked;
      fact_2 = part_length 0 c.args.at.areas c.args.reals.now (omega (arith, c.requires.placed_1.laid, c.requires.reals_in_bounds)) ∙ omega (arith, c.requires.placed_1.laid, c.requires.placed_1);
    }

pub offset_bounds-reals-areas : goal.offset_bounds-reals-areas
offset_bounds-reals-areas c = omega (arith, c.requires.placed_1.laid)

pub slice_bounds-put_areas-count : goal.slice_bounds-put_areas-count
slice_bounds-put_areas-count c = omega (arith, c.requires.placed_1.laid)

pub slice_bounds-put_areas-start : goal.slice_bounds-put_areas-start
slice_bounds-put_areas-start c =
    let planes-long : length c.put_planes.new.planes ≡ c.args.at.areas - 0 = c.put_planes.auto.planes ∙ part_length 0 c.args.at.areas c.args.reals.now (omega (arith, c.requires.placed_1.laid, c.requires.reals_in_bounds)) in
    let one : List Float = put_mid 0 (c.args.at.areas - 0) c.args.reals.now c.put_planes.new.planes in
    let one-long : length one ≡ length c.args.reals.now = put_length 0 c.args.at.areas c.args.reals.now c.put_planes.new.planes (omega (arith, c.requires.placed_1.laid, c.requires.reals_in_bounds)) planes-long in omega (arith, c.requires.placed_1.laid, c.requires.reals_in_bounds, one-long)

pub slice_bounds-put_areas-end : goal.slice_bounds-put_areas-end
slice_bounds-put_areas-end c =
    let planes-long : length c.put_planes.new.planes ≡ c.args.at.areas - 0 = c.put_planes.auto.planes ∙ part_length 0 c.args.at.areas c.args.reals.now (omega (arith, c.requires.placed_1.laid, c.requires.reals_in_bounds)) in
    let one : List Float = put_mid 0 (c.args.at.areas - 0) c.args.reals.now c.put_planes.new.planes in
    let one-long : length one ≡ length c.args.reals.now = put_length 0 c.args.at.areas c.args.reals.now c.put_planes.new.planes (omega (arith, c.requires.placed_1.laid, c.requires.reals_in_bounds)) planes-long in omega (arith, c.requires.placed_1.laid, c.requires.reals_in_bounds, one-long)

pub put_areas-requires : goal.put_areas-requires
put_areas-requires c =
    let one : List Float = put_mid 0 (c.args.at.areas - 0) c.args.reals.now c.put_planes.new.planes in
    let planes-long : length c.put_planes.new.planes ≡ c.args.at.areas - 0 = c.put_planes.auto.planes ∙ part_length 0 c.args.at.areas c.args.reals.now (omega (arith, c.requires.placed_1.laid, c.requires.reals_in_bounds)) in
    let one-long : length one ≡ length c.args.reals.now = put_length 0 c.args.at.areas c.args.reals.now c.put_planes.new.planes (omega (arith, c.requires.placed_1.laid, c.requires.reals_in_bounds)) planes-long in
    record {
      fact_1 = c.requires.placed_1.checked;
      fact_2 = part_length c.args.at.areas c.args.at.totals one (omega (arith, c.requires.placed_1.laid, c.requires.reals_in_bounds, one-long)) ∙ omega (arith, c.requires.placed_1.laid, c.requires.placed_1);
    }

pub put_totals-requires : goal.put_totals-requires
put_totals-requires c =
    let one : List Float = put_mid 0 (c.args.at.areas - 0) c.args.reals.now c.put_planes.new.planes in
    let planes-long : length c.put_planes.new.planes ≡ c.args.at.areas - 0 = c.put_planes.auto.planes ∙ part_length 0 c.args.at.areas c.args.reals.now (omega (arith, c.requires.placed_1.laid, c.requires.reals_in_bounds)) in
    let one-long : length one ≡ length c.args.reals.now = put_length 0 c.args.at.areas c.args.reals.now c.put_planes.new.planes (omega (arith, c.requires.placed_1.laid, c.requires.reals_in_bounds)) planes-long in
    let areas-long : length c.put_areas.new.areas ≡ c.args.at.totals - c.args.at.areas = c.put_areas.auto.areas ∙ part_length c.args.at.areas c.args.at.totals one (omega (arith, c.requires.placed_1.laid, c.requires.reals_in_bounds, one-long)) in
    let two-long : length (put_mid c.args.at.areas (c.args.at.totals - c.args.at.areas) one c.put_areas.new.areas) ≡ length c.args.reals.now = put_length c.args.at.areas c.args.at.totals one c.put_areas.new.areas (omega (arith, c.requires.placed_1.laid, c.requires.reals_in_bounds, one-long)) areas-long ∙ one-long in
    let areas : KeptAreas (part_of c.args.file.now) c.args.at.polygons c.put_areas.new.areas = subst (λ (k : ℕ). KeptAreas (part_of c.args.file.now) k c.put_areas.new.areas) (sym c.requires.placed_1.polygons) c.put_areas.ensures.kept_areas in
    let there = part_put c.args.at.areas c.args.at.totals one c.put_areas.new.areas (omega (arith, c.requires.placed_1.laid, c.requires.reals_in_bounds, one-long)) areas-long in
    record {
      placed_1 = c.requires.placed_1;
      placed_2 = c.requires.placed_2;
      placed_3 = c.requires.placed_3;
      reals_in_bounds_1 = omega (arith, c.requires.reals_in_bounds, two-long);
      reals_in_bounds_2 = subst (KeptAreas (part_of c.args.file.now) c.args.at.polygons) (sym there) areas;
    }

pub put_volumes-requires : goal.put_volumes-requires
put_volumes-requires c =
    let one : List Float = put_mid 0 (c.args.at.areas - 0) c.args.reals.now c.put_planes.new.planes in
    let planes-long : length c.put_planes.new.planes ≡ c.args.at.areas - 0 = c.put_planes.auto.planes ∙ part_length 0 c.args.at.areas c.args.reals.now (omega (arith, c.requires.placed_1.laid, c.requires.reals_in_bounds)) in
    let one-long : length one ≡ length c.args.reals.now = put_length 0 c.args.at.areas c.args.reals.now c.put_planes.new.planes (omega (arith, c.requires.placed_1.laid, c.requires.reals_in_bounds)) planes-long in
    let areas-long : length c.put_areas.new.areas ≡ c.args.at.totals - c.args.at.areas = c.put_areas.auto.areas ∙ part_length c.args.at.areas c.args.at.totals one (omega (arith, c.requires.placed_1.laid, c.requires.reals_in_bounds, one-long)) in
    let two-long : length (put_mid c.args.at.areas (c.args.at.totals - c.args.at.areas) one c.put_areas.new.areas) ≡ length c.args.reals.now = put_length c.args.at.areas c.args.at.totals one c.put_areas.new.areas (omega (arith, c.requires.placed_1.laid, c.requires.reals_in_bounds, one-long)) areas-long ∙ one-long in
    let three-long : length c.put_totals.new.reals ≡ length c.args.reals.now = c.put_totals.ensures.kept.long ∙ two-long in
    record {
      placed_1 = c.requires.placed_1;
      placed_2 = c.requires.placed_2;
      placed_3 = c.requires.placed_3;
      reals_in_bounds = omega (arith, c.requires.reals_in_bounds, three-long);
    }

pub returns : goal.returns
returns c =
    let planes-long : length c.put_planes.new.planes ≡ c.args.at.areas - 0 = c.put_planes.auto.planes ∙ part_length 0 c.args.at.areas c.args.reals.now (omega (arith, c.requires.placed_1.laid, c.requires.reals_in_bounds)) in
    let one : List Float = put_mid 0 (c.args.at.areas - 0) c.args.reals.now c.put_planes.new.planes in
    let one-long : length one ≡ length c.args.reals.now = put_length 0 c.args.at.areas c.args.reals.now c.put_planes.new.planes (omega (arith, c.requires.placed_1.laid, c.requires.reals_in_bounds)) planes-long in
    let areas-long : length c.put_areas.new.areas ≡ c.args.at.totals - c.args.at.areas = c.put_areas.auto.areas ∙ part_length c.args.at.areas c.args.at.totals one (omega (arith, c.requires.placed_1.laid, c.requires.reals_in_bounds, one-long)) in
    let areas : KeptAreas (part_of c.args.file.now) c.args.at.polygons c.put_areas.new.areas = subst (λ (k : ℕ). KeptAreas (part_of c.args.file.now) k c.put_areas.new.areas) (sym c.requires.placed_1.polygons) c.put_areas.ensures.kept_areas in
    let planes = subst (λ (k : ℕ). KeptPlanes (part_of c.args.file.now) k c.put_planes.new.planes) (sym c.requires.placed_1.polygons) c.put_planes.ensures.kept_planes in
    let put = reals_put _ c.args.at c.requires.placed_1.laid c.args.reals.now _ _ _ _ c.requires.reals_in_bounds planes-long areas-long c.put_totals.ensures c.put_volumes.ensures in
    record {
      reals = put.0 planes areas;
      outside = put.1;
    }
