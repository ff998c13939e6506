-- `file_ok::verdict::judge` meets its contract.
use mathlib.Core.Path.{◌≡◌, sym}
use Prim.Native.Nat.{◌+◌, ◌*◌, ◌≤◌}
use lib.ListN.{length}
use Rattle.file_part.specs.Layout.{size_of}
use native.Mathlib.Nat.{le_of_eq}
use native.Mathlib.Omega.{arith}
use Rattle.file_ok.proofs.VerdictLaws.{Passed, small, sized, verdict_short, verdict_edition, verdict_large, verdict_length, verdict_content}
use Rattle.file_ok.proofs.verdict.judge.Goals as goal

pub returns-then-n-lt144 : goal.returns-then-n-lt144
returns-then-n-lt144 c = verdict_short _ c.if-n-lt144.true

pub returns-then-u32_at-ne1 : goal.returns-then-u32_at-ne1
returns-then-u32_at-ne1 c = verdict_edition _ _ c.if-n-lt144.false c.u32_at.ensures c.if-u32_at-ne1.true

pub returns-then-vertices-polygons : goal.returns-then-vertices-polygons
returns-then-vertices-polygons c =
    let passed : Passed c.args.file.now c.u32_at.result c.vertex_count-vertices.result c.polygon_count-polygons.result = record {
      long = c.if-n-lt144.false;
      edition_is = c.u32_at.ensures;
      first = c.if-u32_at-ne1.false;
      vertices_is = c.vertex_count-vertices.ensures;
      polygons_is = c.polygon_count-polygons.ensures;
    } in verdict_large _ _ _ _ passed c.if-vertices-polygons.true

pub entry_at-requires : goal.entry_at-requires
entry_at-requires c =
    let few : (c.vertex_count-vertices.result ≤ 16384) × (c.polygon_count-polygons.result ≤ 4096) = small c.vertex_count-vertices.result c.polygon_count-polygons.result c.if-vertices-polygons.false in few

pub overflow_add-entry_at : goal.overflow_add-entry_at
overflow_add-entry_at c =
    let few : (c.vertex_count-vertices.result ≤ 16384) × (c.polygon_count-polygons.result ≤ 4096) = small c.vertex_count-vertices.result c.polygon_count-polygons.result c.if-vertices-polygons.false in omega (arith, few, c.entry_at.ensures)

pub overflow_mul-polygons : goal.overflow_mul-polygons
overflow_mul-polygons c =
    let few : (c.vertex_count-vertices.result ≤ 16384) × (c.polygon_count-polygons.result ≤ 4096) = small c.vertex_count-vertices.result c.polygon_count-polygons.result c.if-vertices-polygons.false in omega (arith, few)

pub overflow_add-polygons : goal.overflow_add-polygons
overflow_add-polygons c =
    let few : (c.vertex_count-vertices.result ≤ 16384) × (c.polygon_count-polygons.result ≤ 4096) = small c.vertex_count-vertices.result c.polygon_count-polygons.result c.if-vertices-polygons.false in omega (arith, few)

pub returns-then-n-entry_at : goal.returns-then-n-entry_at
returns-then-n-entry_at c =
    let passed : Passed c.args.file.now c.u32_at.result c.vertex_count-vertices.result c.polygon_count-polygons.result = record {
      long = c.if-n-lt144.false;
      edition_is = c.u32_at.ensures;
      first = c.if-u32_at-ne1.false;
      vertices_is = c.vertex_count-vertices.ensures;
      polygons_is = c.polygon_count-polygons.ensures;
    } in
    verdict_length _ _ _ _ _ passed c.if-vertices-polygons.false c.u32_at-back.ensures (rw c.entry_at.ensures at c.if-n-entry_at.true)

pub content_verdict-requires : goal.content_verdict-requires
content_verdict-requires c =
    let few : (c.vertex_count-vertices.result ≤ 16384) × (c.polygon_count-polygons.result ≤ 4096) = small c.vertex_count-vertices.result c.polygon_count-polygons.result c.if-vertices-polygons.false in
    let exact : length c.args.file.now ≡ size_of c.vertex_count-vertices.result c.polygon_count-polygons.result = let v = c.vertex_count-vertices.result in
    let p = c.polygon_count-polygons.result in
    (sized _ (size_of v p) c.u32_at-back.result (80 * p + 144) (rw c.entry_at.ensures at c.if-n-entry_at.false)).0 in
    record {
      fact_1 = le_of_eq (sym exact);
      fact_2 = few.0;
      fact_3 = few.1;
    }

pub returns : goal.returns
returns c =
    let passed : Passed c.args.file.now c.u32_at.result c.vertex_count-vertices.result c.polygon_count-polygons.result = record {
      long = c.if-n-lt144.false;
      edition_is = c.u32_at.ensures;
      first = c.if-u32_at-ne1.false;
      vertices_is = c.vertex_count-vertices.ensures;
      polygons_is = c.polygon_count-polygons.ensures;
    } in
    verdict_content _ _ _ _ _ _ passed c.if-vertices-polygons.false c.u32_at-back.ensures
    (rw c.entry_at.ensures at c.if-n-entry_at.false) c.content_verdict.ensures
