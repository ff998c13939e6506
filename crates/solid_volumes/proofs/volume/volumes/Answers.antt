-- `solid_volumes::volume::volumes` meets its contract.
use Prim.Native.Nat.{◌<◌}
use native.Mathlib.Omega.{arith}
use mathlib.Core.Path.{◌≡◌, refl, ◌∙◌}
use lib.Ieee.{nan}
use lib.ListN.{length, get_or}
use Rattle.num_float.specs.Sign.{plus_zero}
use Rattle.list_laws.proofs.Fill.{filled_at}
use Rattle.file_part.specs.Layout.{polygon_count_of}
use Rattle.file_part.specs.Part.{part_of}
use Rattle.file_ok.proofs.ReadableLaws.{readable_length, readable_counts}
use Rattle.solid_volumes.proofs.VolumeLaws.{LabelOf, label_of, volume_none, volume_more, volumes_are, fan_room, fan_read}
use Rattle.solid_volumes.proofs.volume.volumes.Goals as goal

pub vertex_count-vertices-requires : goal.vertex_count-vertices-requires
vertex_count-vertices-requires c = omega (arith, readable_length _ c.requires.fact_1)

pub polygon_count-polygons-requires : goal.polygon_count-polygons-requires
polygon_count-polygons-requires c = omega (arith, readable_length _ c.requires.fact_1)

pub loop-p-init : goal.loop-p-init
loop-p-init c =
    let each = filled_at c.fill.new.cells (length c.args.volume.now) plus_zero nan c.fill.ensures in
    λ b h. each b (omega (arith, c.requires.fact_3)) ∙ volume_none _ _

pub bounds-labels-p : goal.bounds-labels-p
bounds-labels-p c =
    let known : c.loop-p.p < polygon_count_of c.args.file.now = omega arith in
    (label_of c.args.file.now c.args.labels.now c.loop-p.p _ c.requires.fact_2 known refl).inside

pub entry_at-requires : goal.entry_at-requires
entry_at-requires c =
    let counts = readable_counts _ c.requires.fact_1 in
    (omega (arith, counts.0, c.vertex_count-vertices.ensures), omega (arith, counts.1))

pub bounds-volume-b : goal.bounds-volume-b
bounds-volume-b c =
    let known : c.loop-p.p < polygon_count_of c.args.file.now = omega arith in
    let label = label_of c.args.file.now c.args.labels.now c.loop-p.p _ c.requires.fact_2 known refl in
    omega (arith, label.known)

pub fan_volume-requires : goal.fan_volume-requires
fan_volume-requires c =
    let known : c.loop-p.p < polygon_count_of c.args.file.now = omega arith in
    let all = fan_room _ c.vertex_count-vertices.result c.loop-p.p _ c.requires.fact_1 c.vertex_count-vertices.ensures known c.entry_at.ensures in
    record { fact_1 = all.0; fact_2 = all.1.0; fact_3 = all.1.1 }

pub bounds-volume-b-in-loop-p : goal.bounds-volume-b-in-loop-p
bounds-volume-b-in-loop-p c =
    let known : c.loop-p.p < polygon_count_of c.args.file.now = omega arith in
    let label = label_of c.args.file.now c.args.labels.now c.loop-p.p _ c.requires.fact_2 known refl in
    omega (arith, label.known)

pub loop-p-preserved : goal.loop-p-preserved
loop-p-preserved c =
    let long : length c.loop-p.volume ≡ polygon_count_of c.args.file.now = omega arith in
    let known : c.loop-p.p < polygon_count_of c.args.file.now = omega arith in
    let s = c.args in
    let b = get_or s.labels.now c.loop-p.p 0 in
    let label : LabelOf s.file.now s.labels.now c.loop-p.p b = label_of s.file.now s.labels.now c.loop-p.p b c.requires.fact_2 known refl in
    let old = get_or c.loop-p.volume b nan in
    let sum = fan_read s.file.now c.vertex_count-vertices.result c.loop-p.p c.entry_at.result old c.fan_volume.result c.vertex_count-vertices.ensures c.entry_at.ensures c.fan_volume.ensures in
    volume_more (part_of s.file.now) c.loop-p.volume (polygon_count_of s.file.now) c.loop-p.p b c.fan_volume.result long label.own
    label.known sum c.loop-p.invariant

pub returns : goal.returns
returns c = volumes_are c.args.file.now c.loop-p.volume c.loop-p.p (omega arith) (omega arith) c.loop-p.invariant
