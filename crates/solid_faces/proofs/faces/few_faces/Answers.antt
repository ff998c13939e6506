-- `solid_faces::faces::few_faces` meets its contract.
use mathlib.Core.Path.{refl}
use Prim.Native.Nat.{◌<◌}
use Rattle.solid_polygon.specs.file_part.specs.Layout.{polygon_count_of}
use Rattle.solid_faces.proofs.BodyLaws.{readable_long, polygons_are, within}
use Rattle.solid_faces.proofs.FirstLaws.{few_next, many_faces, few_faces}
use Rattle.solid_faces.proofs.TableLaws.{table_none}
use native.Mathlib.Omega.{arith}
use Rattle.solid_faces.proofs.faces.few_faces.Goals as goal

pub polygon_count-polygons-requires : goal.polygon_count-polygons-requires
polygon_count-polygons-requires c = readable_long _ c.requires

pub loop-p-init : goal.loop-p-init
loop-p-init c = table_none _ _ refl

pub returns-then-last-eq-MOST : goal.returns-then-last-eq-MOST
returns-then-last-eq-MOST c =
    let polygon : c.loop-p.p < polygon_count_of c.args.file.now = omega (arith, c.loop-p-test.true, c.polygon_count-polygons.ensures) in
    many_faces _ _ _ (within _ _ polygon) c.face_number-last.ensures c.if-last-eq-MOST.true

pub link-count-requires-clause-f_value_2 : goal.link-count-requires-clause-f_value_2
link-count-requires-clause-f_value_2 c =
    let table = c.loop-p.invariant in
    few_next _ _ _ _ _ table.firsts table.few c.face_number-last.ensures c.if-last-eq-MOST.false

pub returns : goal.returns
returns c =
    let table = c.loop-p.invariant in
    few_faces _ _ _ _ _ (polygons_are _ _ c.polygon_count-polygons.ensures) c.loop-p.auto.p-end c.loop-p-test.false table.few table.firsts
