-- `obj_windows::fill::fill` meets its contract: the corners that name a vertex passed have its coordinates.
use mathlib.Core.List.{List}
use Prim.Native.Nat.{ℕ, ◌+◌, ◌-◌, ◌≤◌, ◌<◌}
use native.Mathlib.Decide.{dec_le}
use lib.ListN.{length}
use Rattle.obj_text.proofs.LineLaws.{forms_start, forms_end}
use Rattle.obj_windows.proofs.FillLaws.{filling_all, filling_step, filled}
use native.Mathlib.Omega.{arith}
use Rattle.obj_windows.proofs.fill.fill.Goals as goal

further : (text : List ℕ) (at to next n m : ℕ) → at ≤ length text → n + at ≤ to → m + to ≤ next → (to ≤ length text → to < next) → next ≤ length text + 1 → length text + 1 - next < length text + 1 - at
further text at to next n m h p q f i = go (dec_le to (length text))
  where
    go : Dec (to ≤ length text) → length text + 1 - next < length text + 1 - at
    go (yes k) = let l = f k in omega (arith, h, p, l, i)
    go (no k) = omega (arith, h, p, q, k)

pub loop-at-init : goal.loop-at-init
loop-at-init c = filling_all _ _ _ _ _ _ _ _ _ (forms_start c.args.text.now) c.requires.fact_5 c.requires.fact_3 c.requires.fact_4

pub loop-at-preserved : goal.loop-at-preserved
loop-at-preserved c = filling_step c.loop-at.invariant _ _ _ _ _ _ _ _ _ _ _ c.unnamed-gap.ensures c.skip-p.ensures c.load-q.ensures c.flush.ensures c.flush-in-loop-at.ensures c.flush-in-loop-at-2.ensures

pub returns : goal.returns
returns c = filled (forms_end c.args.text.now c.loop-at.at (omega (arith, c.loop-at-test.false))) c.loop-at.invariant
