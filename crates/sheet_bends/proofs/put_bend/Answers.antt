-- `sheet_bends::put_bend` meets its contract.
use mathlib.Core.Path.{refl}
use Rattle.sheet_bends.specs.Work.{bend_stored}
use Rattle.sheet_bends.proofs.put_bend.Goals as goal

pub returns : goal.returns
unfolding bend_stored
returns c = refl
