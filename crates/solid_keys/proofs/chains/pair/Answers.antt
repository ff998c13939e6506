-- `solid_keys::chains::pair` meets its contract.
use mathlib.Core.Path.{sym, subst}
use mathlib.Core.Bool.{Bool}
use Prim.Native.Nat.{ℕ, ◌+◌}
use native.Mathlib.Omega.{arith}
use Rattle.solid_keys.specs.Work.{col, side_cells, Out}
use Rattle.solid_keys.proofs.CellLaws.{kept_none, kept_join, kept_fewer}
use Rattle.solid_keys.proofs.ColumnLaws.{side_cells_kept, sides_kept, before_kept}
use Rattle.solid_keys.proofs.PairLaws.{out_none, out_all}
use Rattle.solid_keys.proofs.chains.pair.Goals as goal

pub loop-s-init : goal.loop-s-init
loop-s-init c = (kept_none 7 _, out_none _ _ _)

pub pair_one-requires : goal.pair_one-requires
pair_one-requires c =
    let kept = kept_fewer 4 7 c.args.mem.now c.loop-s.mem (omega arith) c.loop-s.invariant.0 in
    let cells = side_cells_kept c.args.mem.now c.loop-s.mem kept in
    record {
      sides_1 = sides_kept c.args.mem.now c.loop-s.mem kept c.args.n c.requires.fact_1 c.loop-s.auto.mem;
      sides_2 = c.loop-s-test.true;
      sides_3 = before_kept c.args.mem.now c.loop-s.mem c.args.n c.loop-s.invariant.0 c.requires.fact_2;
      out = subst (λ (f : ℕ → ℕ → Bool). Out f (c.args.n + 1) c.loop-s.s (col c.loop-s.mem 7)) (sym cells) c.loop-s.invariant.1;
    }

pub loop-s-preserved : goal.loop-s-preserved
loop-s-preserved c =
    let kept = kept_fewer 4 7 c.args.mem.now c.loop-s.mem (omega arith) c.loop-s.invariant.0 in
    let cells = side_cells_kept c.args.mem.now c.loop-s.mem kept in (
      kept_join 7 c.args.mem.now c.loop-s.mem _ c.loop-s.invariant.0 c.pair_one.ensures.kept,
      subst (λ (f : ℕ → ℕ → Bool). Out f (c.args.n + 1) (c.loop-s.s + 1) (col c.pair_one.new.mem 7)) cells c.pair_one.ensures.out,
    )

pub returns : goal.returns
returns c =
    record {
      kept = kept_fewer 4 7 c.args.mem.now c.loop-s.mem (omega arith) c.loop-s.invariant.0;
      pairs = out_all (side_cells c.args.mem.now) c.args.n c.loop-s.s (col c.loop-s.mem 7) (omega arith) c.loop-s.invariant.1;
    }
