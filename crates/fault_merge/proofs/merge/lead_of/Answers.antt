-- `fault_merge::merge::lead_of` meets its contract: none that is passed shares the line.
use mathlib.Core.Path.{sym, ◌∙◌}
use Rattle.file_part.specs.Part.{part_of}
use Rattle.fault_lines.specs.Line.{same_heading_of}
use Rattle.fault_merge.specs.Rows.{heading_at}
use Rattle.fault_merge.proofs.LeadLaws.{none_more, lead_found, lead_self}
use native.Mathlib.Omega.{arith}
use Rattle.fault_merge.proofs.merge.lead_of.Goals as goal

pub loop-j-init : goal.loop-j-init
loop-j-init c = λ k h. absurd (omega (arith, h))

pub is_same-requires : goal.is_same-requires
is_same-requires c = let p = c.requires in
    record {
      rows_1 = p.rows_1;
      rows_2 = c.loop-j-test.true;
      rows_3 = p.rows_2;
      hashes_1 = p.hashes_1;
      hashes_2 = p.hashes_2;
    }

pub returns-then-is_same : goal.returns-then-is_same
returns-then-is_same c =
    let g = c.args in
    lead_found (part_of g.file.now) g.cells.now g.numbers.now g.i c.loop-j.j c.loop-j-test.true c.loop-j.invariant (sym c.is_same.ensures ∙ c.if-is_same.true)

pub loop-j-preserved : goal.loop-j-preserved
loop-j-preserved c =
    let g = c.args in
    none_more (λ k. same_heading_of (heading_at (part_of g.file.now) g.cells.now g.numbers.now k) (heading_at (part_of g.file.now) g.cells.now g.numbers.now g.i)) c.loop-j.j c.loop-j.invariant (sym c.is_same.ensures ∙ c.if-is_same.false)

pub returns : goal.returns
returns c =
    let g = c.args in
    lead_self (part_of g.file.now) g.cells.now g.numbers.now g.i c.loop-j.j c.loop-j-test.false c.loop-j.invariant
