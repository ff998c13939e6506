-- `solid_keys::chains::find` meets its contract.
use mathlib.Core.Path.{sym, ◌∙◌}
use native.Mathlib.Omega.{arith}
use Rattle.solid_keys.specs.Work.{col}
use Rattle.solid_keys.proofs.ColumnLaws.{keyless_none, same_slot}
use Rattle.solid_keys.proofs.WalkLaws.{walk_start, walk_found, walk_on, walk_falls, walk_end}
use Rattle.solid_keys.proofs.chains.find.Goals as goal

pub returns-then-not-is_live : goal.returns-then-not-is_live
returns-then-not-is_live c =
    keyless_none c.args.mem.now c.args.s (sym c.is_live.ensures ∙ c.if-not-is_live.true)

pub loop-t-init : goal.loop-t-init
loop-t-init c = walk_start _ (λ u h. same_slot _ _ u _ h) c.requires.from_value

pub returns-then-same_side : goal.returns-then-same_side
returns-then-same_side c = walk_found _ _ c.loop-t.invariant (omega arith) (sym c.same_side.ensures ∙ c.if-same_side.true)

pub loop-t-smaller : goal.loop-t-smaller
loop-t-smaller c =
    walk_falls _ _ c.loop-t.invariant (omega arith) (col c.args.mem.now 5) c.requires.sides_3

pub loop-t-preserved : goal.loop-t-preserved
loop-t-preserved c =
    walk_on _ _ c.loop-t.invariant (omega arith) (col c.args.mem.now 5) (λ u h. same_slot _ _ u _ h) c.requires.sides_3
    (sym c.same_side.ensures ∙ c.if-same_side.false)

pub returns : goal.returns
returns c = walk_end _ c.loop-t.invariant c.loop-t-test.false
