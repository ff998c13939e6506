-- `obj::write::put_polygons` meets its contract: the polygons passed are written.
use mathlib.Core.Path.{refl, ◌∙◌}
use Rattle.obj.proofs.WriteLaws.{entries_none, entries_more, first_none, first_more, first_most}
use native.Mathlib.Omega.{arith}
use Rattle.obj.proofs.write.put_polygons.Goals as goal

pub loop-p-init : goal.loop-p-init
loop-p-init c = record { first_is = first_none c.args.indices.now c.args.counts.now; written = entries_none _ _ _ }

pub overflow_cast-count : goal.overflow_cast-count
overflow_cast-count c = omega (arith, first_most c.args.indices.now c.args.counts.now _ _ c.loop-p-test.true, c.requires.fact_3)

pub overflow_add-first : goal.overflow_add-first
overflow_add-first c = omega (arith, first_most c.args.indices.now c.args.counts.now _ _ c.loop-p-test.true, c.requires.fact_3, c.loop-p.invariant.first_is)

pub loop-p-preserved : goal.loop-p-preserved
loop-p-preserved c = record {
  first_is = first_more c.args.indices.now c.args.counts.now c.loop-p.p _ _ c.loop-p.invariant.first_is refl;
  written = entries_more c.args.indices.now c.args.counts.now c.loop-p.p _ _ c.loop-p.invariant.written c.loop-p.invariant.first_is refl c.put_entry.ensures;
}
