-- `solid_boxes::boxes::put_box` meets its contract.
use mathlib.Core.Path.{refl}
use native.Mathlib.Omega.{arith}
use lib.ListN.{length-set}
use Rattle.solid_boxes.specs.Work.{put_box}
use Rattle.solid_boxes.proofs.boxes.put_box.Goals as goal

pub bounds-boxes-at : goal.bounds-boxes-at
bounds-boxes-at c = omega (arith, c.requires)

pub bounds-boxes-at-2 : goal.bounds-boxes-at-2
bounds-boxes-at-2 c = simp length-set (omega (arith, c.requires))

pub bounds-boxes-at-3 : goal.bounds-boxes-at-3
bounds-boxes-at-3 c = simp length-set (omega (arith, c.requires))

pub bounds-boxes-at-4 : goal.bounds-boxes-at-4
bounds-boxes-at-4 c = simp length-set (omega (arith, c.requires))

pub bounds-boxes-at-5 : goal.bounds-boxes-at-5
bounds-boxes-at-5 c = simp length-set (omega (arith, c.requires))

pub bounds-boxes-at-6 : goal.bounds-boxes-at-6
bounds-boxes-at-6 c = simp length-set (omega (arith, c.requires))

pub returns : goal.returns
unfolding put_box
returns c = refl
