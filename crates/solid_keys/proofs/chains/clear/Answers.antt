-- `solid_keys::chains::clear` meets its contract.
use mathlib.Core.Path.{◌≡◌, ◌∙◌}
use Prim.Native.Nat.{◌+◌, ◌*◌}
use native.Mathlib.Omega.{arith}
use lib.ListN.{set}
use borrow.Author.Count.{below_none, below_more}
use Rattle.solid_keys.specs.Work.{col}
use Rattle.solid_keys.proofs.CellLaws.{put_cell, kept_none, kept_set}
use Rattle.solid_keys.proofs.chains.clear.Goals as goal

pub loop-s-init : goal.loop-s-init
loop-s-init c = (kept_none 4 _, below_none _)

pub loop-s-preserved : goal.loop-s-preserved
loop-s-preserved c =
    let mem = c.loop-s.mem in
    let s = c.loop-s.s in
    let put = put_cell mem 4 s 0 (omega arith) in (
      kept_set 4 _ mem 4 s 0 c.loop-s.invariant.0 (omega arith) (omega arith),
      below_more (λ k. col (set mem (s * 8 + 4) 0) 4 k ≡ 0) s (λ k l. put.else k (λ e. omega arith) ∙ c.loop-s.invariant.1 k l) put.there,
    )
