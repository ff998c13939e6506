-- `probe::samples::put_sample` meets its contract.
use mathlib.Core.Path.{refl}
use lib.ListN.{length-set}
use Rattle.probe.proofs.SampleLaws.{faces_row, numbers_row}
use native.Mathlib.Omega.{arith}
use Rattle.probe.proofs.samples.put_sample.Goals as goal

pub bounds-faces-k-2 : goal.bounds-faces-k-2
bounds-faces-k-2 c = simp length-set (omega arith)

pub bounds-numbers-at-2 : goal.bounds-numbers-at-2
bounds-numbers-at-2 c = simp length-set (omega arith)

pub bounds-numbers-at-3 : goal.bounds-numbers-at-3
bounds-numbers-at-3 c = simp length-set (omega arith)

pub bounds-numbers-at-4 : goal.bounds-numbers-at-4
bounds-numbers-at-4 c = simp length-set (omega arith)

pub bounds-numbers-at-5 : goal.bounds-numbers-at-5
bounds-numbers-at-5 c = simp length-set (omega arith)

pub bounds-numbers-at-6 : goal.bounds-numbers-at-6
bounds-numbers-at-6 c = simp length-set (omega arith)

pub bounds-numbers-at-7 : goal.bounds-numbers-at-7
bounds-numbers-at-7 c = simp length-set (omega arith)

pub bounds-numbers-at-8 : goal.bounds-numbers-at-8
bounds-numbers-at-8 c = simp length-set (omega arith)

pub shape_of-faces : goal.shape_of-faces
shape_of-faces c = simp length-set refl

pub shape_of-numbers : goal.shape_of-numbers
shape_of-numbers c = simp length-set refl

pub returns : goal.returns
returns c =
    record {
      fact_1 = faces_row _ _ _ c.requires.fact_1;
      fact_2 = numbers_row _ _ _ c.requires.fact_2;
    }
