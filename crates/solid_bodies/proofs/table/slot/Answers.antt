-- `solid_bodies::table::slot` meets its contract.
use mathlib.Core.Path.{refl}
use Rattle.solid_bodies.specs.Work.{slot_of}
use Rattle.solid_bodies.proofs.table.slot.Goals as goal

pub returns : goal.returns
unfolding slot_of
returns c = refl
