-- `solid_bodies::table::find` meets its contract: what the walk passes has another key, and the walk falls.
use Prim.Native.Nat.{ℕ, ◌<◌}
use native.Mathlib.Omega.{arith}
use mathlib.Core.Path.{refl, sym, subst}
use Rattle.solid_bodies.specs.Work.{key_at}
use Rattle.solid_bodies.proofs.TableLaws.{key_same, key_other, slot_in, seek_begin, seek_turn, seek_hit}
use Rattle.solid_bodies.proofs.table.find.Goals as goal

pub offset_bounds-table-h : goal.offset_bounds-table-h
offset_bounds-table-h c =
    let h-in : c.args.h < c.args.n = subst (λ (k : ℕ). k < c.args.n) (sym c.requires.h_value_1)
    (slot_in c.args.n (key_at c.args.n c.args.corners.now c.args.v) (omega arith)) in omega (arith, h-in)

pub bounds-table-h : goal.bounds-table-h
bounds-table-h c =
    let h-in : c.args.h < c.args.n = subst (λ (k : ℕ). k < c.args.n) (sym c.requires.h_value_1)
    (slot_in c.args.n (key_at c.args.n c.args.corners.now c.args.v) (omega arith)) in omega (arith, h-in)

pub loop-at-init : goal.loop-at-init
loop-at-init c =
    seek_begin _ _ _ _ _ _ c.requires.h_value_2 (omega arith) c.requires.h_value_1 refl

pub returns-then-same : goal.returns-then-same
returns-then-same c =
    seek_hit _ _ _ _ _ c.requires.h_value_2 c.loop-at.invariant c.loop-at-test.true
    (key_same _ _ _ c.same.ensures c.if-same.true)

pub loop-at-preserved : goal.loop-at-preserved
loop-at-preserved c =
    seek_turn _ _ _ _ _ c.requires.h_value_2 c.loop-at.invariant c.loop-at-test.true _
    (key_other _ _ _ c.same.ensures c.if-same.false) refl
