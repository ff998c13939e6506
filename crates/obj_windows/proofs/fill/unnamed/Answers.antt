-- `obj_windows::fill::unnamed` meets its contract: the gap is that of the numbers passed.
use Rattle.std.proofs.lemmas.List.{get_or-take}
use mathlib.Core.Path.{◌≡◌, subst}
use Prim.Native.Nat.{ℕ, ◌<◌}
use lib.Seq.{length-take-le}
use Rattle.obj_windows.specs.Work.{Nearer, Unnamed}
use Rattle.obj_windows.proofs.FillLaws.{unnamed_none, unnamed_more}
use native.Mathlib.Omega.{arith}
use Rattle.obj_windows.proofs.fill.unnamed.Goals as goal

pub loop-number-init : goal.loop-number-init
loop-number-init c = unnamed_none _ _ _

pub loop-number-preserved : goal.loop-number-preserved
loop-number-preserved c =
    let all = length-take-le c.args.used c.args.numbers.now c.requires in
    let inside : c.loop-number.number-index < c.args.used = omega (arith, all) in
    unnamed_more c.args.numbers.now c.loop-number.number-index c.args.base c.loop-number.gap _ c.loop-number.invariant
    (subst (λ (n : ℕ). Nearer c.loop-number.gap c.args.base n c.nearer-gap.result) (get_or-take c.args.used c.args.numbers.now c.loop-number.number-index 0 inside) c.nearer-gap.ensures)

pub returns : goal.returns
returns c =
    let all = length-take-le c.args.used c.args.numbers.now c.requires in
    let end : c.loop-number.number-index ≡ c.args.used = omega (arith, all) in
    subst (λ (k : ℕ). Unnamed c.args.numbers.now k c.args.base c.loop-number.gap) end c.loop-number.invariant
