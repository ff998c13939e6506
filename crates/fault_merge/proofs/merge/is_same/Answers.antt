-- `fault_merge::merge::is_same` meets its contract: other hashes are other texts.
use mathlib.Core.Path.{sym, ap₂, subst, ◌∙◌}
use borrow.Author.Tests.{ne_eqb}
use Rattle.file_part.specs.Part.{part_of}
use Rattle.fault_row.specs.declared.flaw.Flaw.{Flaw}
use Rattle.fault_lines.specs.Line.{same_heading_of}
use Rattle.fault_text.specs.Good.{Good}
use Rattle.fault_merge.specs.Rows.{heading_of, heading_at}
use Rattle.fault_merge.proofs.LeadLaws.{other_line}
use native.Mathlib.Omega.{arith}
use Rattle.fault_merge.proofs.merge.is_same.Goals as goal

pub overflow_mul-j : goal.overflow_mul-j
overflow_mul-j c = omega (arith, c.requires.rows_2, c.requires.rows_1.few)

pub bounds-work-j : goal.bounds-work-j
bounds-work-j c = omega (arith, c.requires.rows_2, c.requires.rows_3)

pub returns-else-work-j : goal.returns-else-work-j
returns-else-work-j c =
    let g = c.args in
    ne_eqb _ _ c.if-work-j.false ∙ sym (other_line (part_of g.file.now) g.cells.now g.numbers.now g.work.now g.i g.j g.hash c.requires.hashes_1 c.requires.rows_2 c.requires.hashes_2 c.if-work-j.false)

pub flaw_at-requires : goal.flaw_at-requires
flaw_at-requires c =
    record {
      fact_1 = omega (arith, c.requires.rows_2, c.requires.rows_1.cells_long);
      fact_2 = omega (arith, c.requires.rows_2, c.requires.rows_1.numbers_long);
    }

pub flaw_at-requires-then-work-j : goal.flaw_at-requires-then-work-j
flaw_at-requires-then-work-j c =
    record {
      fact_1 = omega (arith, c.requires.rows_2, c.requires.rows_1.cells_long);
      fact_2 = omega (arith, c.requires.rows_2, c.requires.rows_1.numbers_long);
    }

pub same_heading-requires : goal.same_heading-requires
same_heading-requires c =
    let g = c.args in
    let p = c.requires in
    let good = Good (part_of g.file.now) in
    record {
      fact_1 = p.rows_1.checked;
      fact_2 = subst good (sym c.flaw_at.ensures) (p.rows_1.good g.j (omega (arith, p.rows_2)));
      fact_3 = subst good (sym c.flaw_at-then-work-j.ensures) (p.rows_1.good g.i (omega arith));
    }

pub returns-then-work-j : goal.returns-then-work-j
unfolding heading_at
returns-then-work-j c =
    let t = part_of c.args.file.now in
    c.same_heading.ensures ∙ ap₂ (λ (a b : Flaw). same_heading_of (heading_of t a) (heading_of t b)) c.flaw_at.ensures c.flaw_at-then-work-j.ensures
