-- `solid_segments::shared::put_owners` meets its contract.
use native.Mathlib.Omega.{arith}
use Rattle.file_part.specs.Part.{part_of}
use Rattle.solid_segments.proofs.PlaceLaws.{owns_none, owns_join, owns_all}
use Rattle.solid_segments.proofs.shared.put_owners.Goals as goal

pub loop-p-init : goal.loop-p-init
loop-p-init c = owns_none _ _ _

pub loop-p-preserved : goal.loop-p-preserved
loop-p-preserved c = owns_join (part_of c.args.file.now) c.args.mem.now c.loop-p.mem _ _ _ _ c.loop-p.invariant c.put_owner.ensures

pub returns : goal.returns
returns c = owns_all c.requires.fact_1 c.loop-p.p (omega arith) c.loop-p.mem c.loop-p.invariant
