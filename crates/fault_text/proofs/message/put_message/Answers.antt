-- `fault_text::message::put_message` meets its contract: a case for each kind.
use mathlib.Core.Path.{sym, ap}
use Rattle.file_part.specs.Part.{part_of}
use Rattle.fault_text.specs.Sheet.{hole_near_bend_text, hole_near_edge_text}
use Rattle.fault_text.specs.Told.{told, text_of}
use Rattle.fault_text.proofs.ToldLaws.{layer_told, few_layers_told, nozzle_told, print_thin_wall_told, print_small_hole_told, overhang_told}
use Rattle.num_text.proofs.TextLaws.{adds_same}
use Rattle.fault_text.proofs.message.put_message.Goals as goal

pub returns-in-ThinWall : goal.returns-in-ThinWall
unfolding text_of told
returns-in-ThinWall c = adds_same _ _ (ap (text_of (part_of c.args.file.now)) (sym c.in-ThinWall.is)) c.put_thin_wall.ensures

pub returns-in-SmallHole : goal.returns-in-SmallHole
unfolding text_of told
returns-in-SmallHole c = adds_same _ _ (ap (text_of (part_of c.args.file.now)) (sym c.in-SmallHole.is)) c.put_small_hole.ensures

pub returns-in-DeepHoleMax : goal.returns-in-DeepHoleMax
unfolding text_of told
returns-in-DeepHoleMax c = adds_same _ _ (ap (text_of (part_of c.args.file.now)) (sym c.in-DeepHoleMax.is)) c.put_deep_hole_max.ensures

pub returns-in-DeepHoleStandard : goal.returns-in-DeepHoleStandard
unfolding text_of told
returns-in-DeepHoleStandard c = adds_same _ _ (ap (text_of (part_of c.args.file.now)) (sym c.in-DeepHoleStandard.is)) c.put_deep_hole_standard.ensures

pub returns-in-TightInsideRadius : goal.returns-in-TightInsideRadius
unfolding text_of told
returns-in-TightInsideRadius c = adds_same _ _ (ap (text_of (part_of c.args.file.now)) (sym c.in-TightInsideRadius.is)) c.put_tight_inside_radius.ensures

pub returns-in-DeepInsideCorner : goal.returns-in-DeepInsideCorner
unfolding text_of told
returns-in-DeepInsideCorner c = adds_same _ _ (ap (text_of (part_of c.args.file.now)) (sym c.in-DeepInsideCorner.is)) c.put_deep_inside_corner.ensures

pub returns-in-SharpInsideCorner : goal.returns-in-SharpInsideCorner
unfolding text_of told
returns-in-SharpInsideCorner c = adds_same _ _ (ap (text_of (part_of c.args.file.now)) (sym c.in-SharpInsideCorner.is)) c.put_sharp_inside_corner.ensures

pub returns-in-NoMaterial : goal.returns-in-NoMaterial
unfolding text_of told
returns-in-NoMaterial c = adds_same _ _ (ap (text_of (part_of c.args.file.now)) (sym c.in-NoMaterial.is)) c.put_no_material.ensures

pub returns-in-Material : goal.returns-in-Material
unfolding text_of told
returns-in-Material c = adds_same _ _ (ap (text_of (part_of c.args.file.now)) (sym c.in-Material.is)) c.put_material.ensures

pub returns-in-NotOneThickness : goal.returns-in-NotOneThickness
unfolding text_of told
returns-in-NotOneThickness c = adds_same _ _ (ap (text_of (part_of c.args.file.now)) (sym c.in-NotOneThickness.is)) c.put_not_one_thickness.ensures

pub returns-in-TightBend : goal.returns-in-TightBend
unfolding text_of told
returns-in-TightBend c = adds_same _ _ (ap (text_of (part_of c.args.file.now)) (sym c.in-TightBend.is)) c.put_tight_bend.ensures

pub returns-in-ShortFlange : goal.returns-in-ShortFlange
unfolding text_of told
returns-in-ShortFlange c = adds_same _ _ (ap (text_of (part_of c.args.file.now)) (sym c.in-ShortFlange.is)) c.put_short_flange.ensures

pub returns-in-SheetSmallHole : goal.returns-in-SheetSmallHole
unfolding text_of told
returns-in-SheetSmallHole c = adds_same _ _ (ap (text_of (part_of c.args.file.now)) (sym c.in-SheetSmallHole.is)) c.put_sheet_small_hole.ensures

pub returns-in-HoleNearBend : goal.returns-in-HoleNearBend
unfolding text_of told hole_near_bend_text
returns-in-HoleNearBend c = adds_same _ _ (ap (text_of (part_of c.args.file.now)) (sym c.in-HoleNearBend.is)) c.put_hole_too_close.ensures

pub returns-in-HoleNearEdge : goal.returns-in-HoleNearEdge
unfolding text_of told hole_near_edge_text
returns-in-HoleNearEdge c = adds_same _ _ (ap (text_of (part_of c.args.file.now)) (sym c.in-HoleNearEdge.is)) c.put_hole_too_close-in-HoleNearEdge.ensures

pub returns-in-NotClosed : goal.returns-in-NotClosed
unfolding text_of told
returns-in-NotClosed c = adds_same _ _ (ap (text_of (part_of c.args.file.now)) (sym c.in-NotClosed.is)) c.put_not_closed.ensures

pub returns-in-ThinnerThanALayer : goal.returns-in-ThinnerThanALayer
unfolding text_of told
returns-in-ThinnerThanALayer c = adds_same _ _ (layer_told (part_of c.args.file.now) _ c.job_of-job.ensures c.in-ThinnerThanALayer.is) c.put_thinner_than_a_layer.ensures

pub returns-in-FewLayers : goal.returns-in-FewLayers
unfolding text_of told
returns-in-FewLayers c = adds_same _ _ (few_layers_told (part_of c.args.file.now) _ c.job_of-job.ensures c.in-FewLayers.is) c.put_few_layers.ensures

pub returns-in-ThinnerThanTheNozzle : goal.returns-in-ThinnerThanTheNozzle
unfolding text_of told
returns-in-ThinnerThanTheNozzle c = adds_same _ _ (nozzle_told (part_of c.args.file.now) _ c.job_of-job.ensures c.in-ThinnerThanTheNozzle.is) c.put_thinner_than_the_nozzle.ensures

pub returns-in-PrintThinWall : goal.returns-in-PrintThinWall
unfolding text_of told
returns-in-PrintThinWall c = adds_same _ _ (print_thin_wall_told (part_of c.args.file.now) _ c.job_of-job.ensures c.in-PrintThinWall.is) c.put_print_thin_wall.ensures

pub returns-in-PrintSmallHole : goal.returns-in-PrintSmallHole
unfolding text_of told
returns-in-PrintSmallHole c = adds_same _ _ (print_small_hole_told (part_of c.args.file.now) _ c.job_of-job.ensures c.in-PrintSmallHole.is) c.put_print_small_hole.ensures

pub returns-in-Overhang : goal.returns-in-Overhang
unfolding text_of told
returns-in-Overhang c = adds_same _ _ (overhang_told (part_of c.args.file.now) _ c.job_of-job.ensures c.in-Overhang.is) c.put_overhang.ensures

pub returns-in-EnclosedHollowSla : goal.returns-in-EnclosedHollowSla
unfolding text_of told
returns-in-EnclosedHollowSla c = adds_same _ _ (ap (text_of (part_of c.args.file.now)) (sym c.in-EnclosedHollowSla.is)) c.put_enclosed_hollow_sla.ensures

pub returns-in-EnclosedHollowSls : goal.returns-in-EnclosedHollowSls
unfolding text_of told
returns-in-EnclosedHollowSls c = adds_same _ _ (ap (text_of (part_of c.args.file.now)) (sym c.in-EnclosedHollowSls.is)) c.put_enclosed_hollow_sls.ensures
