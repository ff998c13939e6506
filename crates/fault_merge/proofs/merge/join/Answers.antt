-- `fault_merge::merge::join` meets its contract: its line has one fault more.
use mathlib.Core.Path.{ap, ◌∙◌}
use Rattle.file_part.specs.Part.{part_of}
use Rattle.fault_row.specs.declared.row.FaultRow.{FaultRow}
use Rattle.fault_merge.proofs.LeadLaws.{lead_le}
use Rattle.fault_merge.proofs.MergeLaws.{room_at, joined_at}
use Rattle.fault_merge.proofs.RowLaws.{rows_count}
use Rattle.fault_merge.proofs.RecallLaws.{merged_front}
use native.Mathlib.Omega.{arith}
use Rattle.fault_merge.proofs.merge.join.Goals as goal

pub row_at-row-requires : goal.row_at-row-requires
row_at-row-requires c =
    record {
      fact_1 = omega (arith, c.requires.rows_1.cells_long);
      fact_2 = omega (arith, c.requires.rows_1.numbers_long);
    }

pub slot_of-slot-requires : goal.slot_of-slot-requires
slot_of-slot-requires c = c.requires.rows_3

pub recalled-known-requires : goal.recalled-known-requires
recalled-known-requires c =
    record {
      fact_1 = omega (arith, c.requires.rows_1.cells_long);
      fact_2 = omega (arith, c.requires.rows_1.numbers_long);
    }

pub place_of-place-requires : goal.place_of-place-requires
place_of-place-requires c =
    record {
      rows_1 = c.requires.rows_1;
      rows_2 = omega (arith, c.requires.rows_2, c.requires.rows_3);
      rows_3 = c.requires.merged;
      same_row = c.recalled-known.ensures;
    }

pub overflow_cast-lead : goal.overflow_cast-lead
overflow_cast-lead c =
    let g = c.args in
    omega (arith, c.place_of-place.ensures.fact_2, lead_le (part_of g.file.now) g.cells.now g.numbers.now g.i, c.requires.rows_1.few)

pub put_cells-requires : goal.put_cells-requires
put_cells-requires c = omega (arith, c.requires.rows_2, c.requires.rows_3)

pub add-requires : goal.add-requires
add-requires c =
    let g = c.args in
    let p = c.requires in
    let r = room_at (part_of g.file.now) g.cells.now g.numbers.now g.i c.place_of-place.result.hash c.place_of-place.result.lead c.row_at-row.result.count g.work.now c.put_cells.new.work c.place_of-place.ensures.fact_2 p.merged c.put_cells.ensures p.rows_1.few (rows_count _ _ _ _ p.rows_1) (omega (arith, p.rows_2, p.rows_3)) (ap (λ (r : FaultRow). r.count) c.row_at-row.ensures) in
    record {
      fact_1 = r.0;
      fact_2 = r.1;
      fact_3 = r.2;
    }

pub remember-requires : goal.remember-requires
remember-requires c =
    record {
      fact_1 = c.slot_of-slot.ensures;
      fact_2 = omega (arith, c.requires.rows_1.few);
    }

pub shape_of-work : goal.shape_of-work
shape_of-work c = c.remember.ensures.long ∙ c.add.ensures.long ∙ c.put_cells.ensures.long

pub returns : goal.returns
returns c =
    let g = c.args in
    let p = c.requires in
    record {
      fact_1 = merged_front (part_of g.file.now) g.cells.now g.numbers.now c.add.new.work c.remember.new.work _ _ (omega (arith, p.rows_2))
          (joined_at (part_of g.file.now) g.cells.now g.numbers.now g.i c.place_of-place.result.hash c.place_of-place.result.lead c.row_at-row.result.count g.work.now c.put_cells.new.work c.place_of-place.ensures.fact_2 p.merged c.put_cells.ensures c.add.new.work c.add.ensures c.place_of-place.ensures.fact_1 (ap (λ (r : FaultRow). r.count) c.row_at-row.ensures))
          c.remember.ensures;
      fact_2 = c.remember.ensures.long ∙ c.add.ensures.long ∙ c.put_cells.ensures.long;
    }
