-- `probe::samples::gablemadder_sample_list` meets its contract.
use mathlib.Core.Path.{refl, sym, ◌∙◌}
use Prim.Native.Nat.{◌+◌, ◌*◌, ◌≤◌, ◌<◌}
use lib.ListN.{length}
use Rattle.file_part.specs.Part.{part_of}
use Rattle.file_ok.proofs.RefusalLaws.{not_none, answered}
use Rattle.scratch.proofs.RefusalLaws.{refused_number, put_number, put_checked, put_room}
use Rattle.wall_samples.specs.Samples.{readings_of}
use Rattle.probe.proofs.ScratchLaws.{readings_put}
use Rattle.probe.proofs.SampleLaws.{list_none, list_more, list_all, faces_small, samples_refused, samples_short, samples_listed, Few, readings_few}
use native.Mathlib.Omega.{arith}
use Rattle.probe.proofs.samples.gablemadder_sample_list.Goals as goal

pub returns-in-Err : goal.returns-in-Err
returns-in-Err c = samples_refused _ _ _ _ _ _ (c.number.ensures ∙ refused_number _ _ _ _ (sym c.body_refusal.ensures ∙ c.in-Err.is)) (λ z. not_none _ (sym c.number.ensures ∙ z))

pub of-at-requires : goal.of-at-requires
of-at-requires c = put_checked _ _ _ (put_number _ _ _ (sym c.body_refusal.ensures ∙ answered _ c.in_default.not-Err))

pub returns-then-faces-most : goal.returns-then-faces-most
returns-then-faces-most c = rw c.number-then-faces-most.ensures (samples_short _ _ _ _ _ _ (sym (put_number _ _ _ (sym c.body_refusal.ensures ∙ answered _ c.in_default.not-Err))) refl _ c.of-at.ensures.fact_1.polygons c.if-faces-most.true)

pub put_body-count-requires : goal.put_body-count-requires
put_body-count-requires c =
    record {
      fact_1 = c.of-at.ensures.fact_1;
      fact_2 = (put_room _ _ _ _ (put_number _ _ _ (sym c.body_refusal.ensures ∙ answered _ c.in_default.not-Err)) c.of-at.ensures.fact_1).0;
      fact_3 = (put_room _ _ _ _ (put_number _ _ _ (sym c.body_refusal.ensures ∙ answered _ c.in_default.not-Err)) c.of-at.ensures.fact_1).1;
    }

pub loop-k-init : goal.loop-k-init
loop-k-init c = list_none _ _ _

pub sample_at-requires : goal.sample_at-requires
sample_at-requires c =
    let low : c.loop-k.k < length (readings_of (part_of c.args.file.now)) = omega (arith, c.loop-k-test.true, c.put_samples-n.ensures.value_1) in
    record {
      standing = c.put_samples-n.ensures.standing;
      readings_1 = c.put_samples-n.ensures.value_2;
      readings_2 = low;
    }

pub put_sample-requires : goal.put_sample-requires
put_sample-requires c =
    let low : c.loop-k.k < length (readings_of (part_of c.args.file.now)) = omega (arith, c.loop-k-test.true, c.put_samples-n.ensures.value_1) in
    let few : Few c.put_samples-n.result (length c.args.faces.now) (length c.args.numbers.now) = readings_few _ _ _ _ _ c.of-at.ensures.fact_1 c.put_samples-n.ensures.value_1 c.if-faces-most.false in
    let room : (2 * c.loop-k.k + 3 ≤ length c.loop-k.faces) × (8 * c.loop-k.k + 8 ≤ length c.loop-k.numbers) = let f = few in
    let l = c.loop-k.invariant in
    (omega (arith, c.loop-k-test.true, f.face_room, l.face_rows.kept.long), omega (arith, c.loop-k-test.true, f.number_room, l.number_rows.kept.long)) in
    let small = faces_small _ _ _ (put_checked _ _ _ (put_number _ _ _ (sym c.body_refusal.ensures ∙ answered _ c.in_default.not-Err))) low c.sample_at.ensures in
    record {
      fact_1 = room.0;
      fact_2 = room.1;
      fact_3 = small.0;
      fact_4 = small.1;
    }

pub loop-k-preserved : goal.loop-k-preserved
loop-k-preserved c =
    let few : Few c.put_samples-n.result (length c.args.faces.now) (length c.args.numbers.now) = readings_few _ _ _ _ _ c.of-at.ensures.fact_1 c.put_samples-n.ensures.value_1 c.if-faces-most.false in
    let room : (2 * c.loop-k.k + 3 ≤ length c.loop-k.faces) × (8 * c.loop-k.k + 8 ≤ length c.loop-k.numbers) = let f = few in
    let l = c.loop-k.invariant in
    (omega (arith, c.loop-k-test.true, f.face_room, l.face_rows.kept.long), omega (arith, c.loop-k-test.true, f.number_room, l.number_rows.kept.long)) in
    list_more _ _ _ _ _ _ _ _ _ room.0 room.1 c.sample_at.ensures c.put_sample.ensures.fact_1 c.put_sample.ensures.fact_2 c.loop-k.invariant

pub overflow_cast-faces : goal.overflow_cast-faces
overflow_cast-faces c =
    let few : Few c.put_samples-n.result (length c.args.faces.now) (length c.args.numbers.now) = readings_few _ _ _ _ _ c.of-at.ensures.fact_1 c.put_samples-n.ensures.value_1 c.if-faces-most.false in omega (arith, few)

pub bounds-faces-0 : goal.bounds-faces-0
bounds-faces-0 c =
    let few : Few c.put_samples-n.result (length c.args.faces.now) (length c.args.numbers.now) = readings_few _ _ _ _ _ c.of-at.ensures.fact_1 c.put_samples-n.ensures.value_1 c.if-faces-most.false in omega (arith, few, c.loop-k.invariant.face_rows.kept.long)

pub returns : goal.returns
returns c =
    let few : Few c.put_samples-n.result (length c.args.faces.now) (length c.args.numbers.now) = readings_few _ _ _ _ _ c.of-at.ensures.fact_1 c.put_samples-n.ensures.value_1 c.if-faces-most.false in
    samples_listed _ _ _ _ _ _ (sym (put_number _ _ _ (sym c.body_refusal.ensures ∙ answered _ c.in_default.not-Err))) refl _ c.of-at.ensures.fact_1.polygons c.if-faces-most.false _ _ _ _
    (readings_put _ _ _ _ _ _ _ _ c.put_samples-n.ensures.standing c.put_body-count.ensures.outside_1 c.put_body-count.ensures.outside_2 (c.of-at.ensures.fact_2, c.of-at.ensures.fact_3) c.put_samples-n.ensures.outside_1 c.put_samples-n.ensures.outside_2 c.put_samples-n.ensures.value_2)
    (list_all _ _ _ _ _ _ _ c.put_samples-n.ensures.value_1 c.loop-k.auto.k-end c.loop-k-test.false few.face_room c.loop-k.invariant)
