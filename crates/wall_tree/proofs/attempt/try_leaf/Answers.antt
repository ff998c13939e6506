-- `wall_tree::attempt::try_leaf` meets its contract.
use mathlib.Core.Path.{sym, subst}
use Prim.Native.Nat.{ℕ, ◌<◌}
use native.Mathlib.Nat.{le_antisymm}
use native.Mathlib.Omega.{arith}
use Rattle.file_part.specs.Layout.{polygon_count_of}
use Rattle.file_part.specs.Part.{part_of}
use Rattle.file_part.proofs.PartLaws.{part_polygons}
use Rattle.wall_tree.specs.Work.{Kept}
use Rattle.wall_tree.proofs.WalkLaws.{kept_on}
use Rattle.wall_tree.proofs.attempt.try_leaf.Goals as goal

pub try_one-kept-requires : goal.try_one-kept-requires
try_one-kept-requires c =
    record {
      checked_1 = c.requires.checked_1;
      checked_2 = c.requires.checked_2;
      vertices_value_1 = c.requires.vertices_value_1;
      vertices_value_2 = c.requires.vertices_value_2;
      vertices_value_3 = subst (λ (k : ℕ). k < polygon_count_of c.args.file.now) (sym c.cell-p.ensures) (c.requires.order_1.numbers _ (omega (arith, c.loop-x-test.true, c.requires.order_3)));
    }

pub loop-x-preserved : goal.loop-x-preserved
loop-x-preserved c = λ w. kept_on _ _ _ _ _ _ _ _ c.requires.order_1 (part_polygons _) (omega (arith, c.loop-x-test.true, c.requires.order_3)) c.cell-p.ensures c.try_one-kept.ensures (c.loop-x.invariant w)

pub returns : goal.returns
returns c = record { step = λ w. subst (λ (k : ℕ). Kept (part_of c.args.file.now) c.args.ray c.args.words.now k c.loop-x.kept) (le_antisymm (c.loop-x.auto.x-end c.requires.order_2) c.loop-x-test.false) (c.loop-x.invariant w) }
