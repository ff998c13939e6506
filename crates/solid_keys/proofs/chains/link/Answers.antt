-- `solid_keys::chains::link` meets its contract.
use Rattle.solid_keys.specs.Work.{Sides}
use Rattle.solid_keys.proofs.ColumnLaws.{sides_kept}
use Rattle.solid_keys.proofs.ChainLaws.{Slotted, linked_start, linked_more, next_now, from_now}
use Rattle.solid_keys.proofs.chains.link.Goals as goal

pub loop-s-init : goal.loop-s-init
loop-s-init c =
    linked_start c.args.mem.now c.args.n c.requires.fact_2

pub slot_of-h-requires : goal.slot_of-h-requires
slot_of-h-requires c =
    let sides : Sides c.loop-s.mem c.args.n = sides_kept c.args.mem.now c.loop-s.mem c.loop-s.invariant.kept c.args.n c.requires.fact_1 c.loop-s.auto.mem in
    record {
      fact_1 = sides;
      fact_2 = c.loop-s-test.true;
    }

pub find-p-requires : goal.find-p-requires
find-p-requires c =
    let sides : Sides c.loop-s.mem c.args.n = sides_kept c.args.mem.now c.loop-s.mem c.loop-s.invariant.kept c.args.n c.requires.fact_1 c.loop-s.auto.mem in
    let slotted : Slotted c.args.mem.now c.loop-s.mem c.args.n
    c.loop-s.s c.slot_of-h.result = record {
      linked = c.loop-s.invariant;
      room = sides.room;
      inside = c.loop-s-test.true;
      slot_inside = c.slot_of-h.ensures.1;
      slot_is = c.slot_of-h.ensures.0;
    } in
    record {
      sides_1 = sides;
      sides_2 = c.loop-s-test.true;
      sides_3 = next_now slotted;
      from_value = from_now slotted;
    }

pub loop-s-preserved : goal.loop-s-preserved
loop-s-preserved c =
    let sides : Sides c.loop-s.mem c.args.n = sides_kept c.args.mem.now c.loop-s.mem c.loop-s.invariant.kept c.args.n c.requires.fact_1 c.loop-s.auto.mem in
    let slotted : Slotted c.args.mem.now c.loop-s.mem c.args.n
    c.loop-s.s c.slot_of-h.result = record {
      linked = c.loop-s.invariant;
      room = sides.room;
      inside = c.loop-s-test.true;
      slot_inside = c.slot_of-h.ensures.1;
      slot_is = c.slot_of-h.ensures.0;
    } in
    linked_more slotted c.find-p.result c.find-p.ensures
