-- `fault_merge::merge::place_of` meets its contract: as that of a fault with the same row, or by the text.
use mathlib.Core.Path.{sym, ap, subst, ◌∙◌}
use Rattle.file_part.specs.Part.{part_of}
use Rattle.fault_row.specs.declared.flaw.Flaw.{Flaw}
use Rattle.fault_text.specs.Told.{text_of}
use Rattle.fault_text.specs.Good.{Good}
use Rattle.fault_merge.specs.Hash.{hash_of}
use Rattle.fault_merge.specs.Rows.{heading_at}
use Rattle.fault_merge.proofs.RecallLaws.{known_hash, known_lead}
use native.Mathlib.Omega.{arith}
use Rattle.fault_merge.proofs.merge.place_of.Goals as goal

pub overflow_mul-result : goal.overflow_mul-result
overflow_mul-result c = omega (arith, (rw c.in-Some.is at c.requires.same_row).0, c.requires.rows_1.few)

pub offset_bounds-work-j : goal.offset_bounds-work-j
offset_bounds-work-j c = omega (arith, (rw c.in-Some.is at c.requires.same_row).0, c.requires.rows_1.few)

pub bounds-work-j : goal.bounds-work-j
bounds-work-j c = omega (arith, (rw c.in-Some.is at c.requires.same_row).0, c.requires.rows_2)

pub overflow_mul-j : goal.overflow_mul-j
overflow_mul-j c = omega (arith, (rw c.in-Some.is at c.requires.same_row).0, c.requires.rows_1.few)

pub overflow_add-j : goal.overflow_add-j
overflow_add-j c = omega (arith, (rw c.in-Some.is at c.requires.same_row).0, c.requires.rows_1.few)

pub cell-requires : goal.cell-requires
cell-requires c = omega (arith, (rw c.in-Some.is at c.requires.same_row).0, c.requires.rows_2)

pub returns-in-Some : goal.returns-in-Some
returns-in-Some c =
    record {
      fact_1 = known_hash _ _ _ _ _ _ c.requires.rows_3 (rw c.in-Some.is at c.requires.same_row).0 c.requires.rows_1.kept (rw c.in-Some.is at c.requires.same_row).1;
      fact_2 = known_lead _ _ _ _ _ _ c.requires.rows_3 (rw c.in-Some.is at c.requires.same_row).0 c.requires.rows_1.kept (rw c.in-Some.is at c.requires.same_row).1 _ c.cell.ensures;
    }

pub flaw_at-requires : goal.flaw_at-requires
flaw_at-requires c =
    record {
      fact_1 = omega (arith, c.requires.rows_1.cells_long);
      fact_2 = omega (arith, c.requires.rows_1.numbers_long);
    }

pub text_hash-hash-requires : goal.text_hash-hash-requires
text_hash-hash-requires c =
    let g = c.args in
    let p = c.requires in
    record {
      fact_1 = p.rows_1.checked;
      fact_2 = subst (Good (part_of g.file.now)) (sym c.flaw_at.ensures) (p.rows_1.good g.i (omega arith));
    }

pub lead_of-requires : goal.lead_of-requires
unfolding heading_at text_of
lead_of-requires c =
    let g = c.args in
    let p = c.requires in
    record {
      rows_1 = p.rows_1;
      rows_2 = p.rows_2;
      hashes_1 = p.rows_3.hashes;
      hashes_2 = c.text_hash-hash.ensures ∙ ap (λ (f : Flaw). hash_of (text_of (part_of g.file.now) f)) c.flaw_at.ensures;
    }

pub returns : goal.returns
unfolding heading_at text_of
returns c =
    let g = c.args in
    record {
      fact_1 = c.text_hash-hash.ensures ∙ ap (λ (f : Flaw). hash_of (text_of (part_of g.file.now) f)) c.flaw_at.ensures;
      fact_2 = c.lead_of.ensures;
    }
