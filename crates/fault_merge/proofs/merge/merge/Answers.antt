-- `fault_merge::merge::merge` meets its contract: the faults before i have joined.
use mathlib.Core.Path.{◌≡◌, refl, subst, ◌∙◌}
use Prim.Native.Nat.{ℕ, ◌+◌}
use Rattle.file_part.specs.Part.{part_of}
use Rattle.fault_merge.specs.Merged.{Merged}
use Rattle.fault_merge.proofs.MergeLaws.{merged_none}
use Rattle.fault_merge.proofs.RowLaws.{rows_less}
use native.Mathlib.Omega.{arith}
use Rattle.fault_merge.proofs.merge.merge.Goals as goal

pub overflow_mul-end : goal.overflow_mul-end
overflow_mul-end c = omega (arith, c.requires.fact_1.few)

pub loop-i-init : goal.loop-i-init
loop-i-init c =
    let g = c.args in
    (refl, merged_none (part_of g.file.now) g.cells.now g.numbers.now _)

pub join-requires : goal.join-requires
join-requires c =
    let p = c.requires in
    record {
      rows_1 = rows_less _ _ _ c.args.n (c.loop-i.i + 1) (omega arith) p.fact_1;
      rows_2 = omega arith;
      rows_3 = omega (arith, p.fact_2, c.loop-i.invariant.0);
      merged = c.loop-i.invariant.1;
    }

pub loop-i-preserved : goal.loop-i-preserved
loop-i-preserved c = (c.join.ensures.fact_2 ∙ c.loop-i.invariant.0, c.join.ensures.fact_1)

pub shape_of-work : goal.shape_of-work
shape_of-work c = c.loop-i.invariant.0

pub returns : goal.returns
returns c =
    let e : c.loop-i.i ≡ c.args.n = omega arith in
    let g = c.args in
    record {
      fact_1 = subst (λ (k : ℕ). Merged (part_of g.file.now) g.cells.now g.numbers.now c.loop-i.work k) e c.loop-i.invariant.1;
      fact_2 = c.loop-i.invariant.0;
    }
