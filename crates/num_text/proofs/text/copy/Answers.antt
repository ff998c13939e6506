-- `num_text::text::copy` meets its contract.
use mathlib.Core.Path.{◌≡◌}
use mathlib.Core.List.{List}
use Prim.Native.Nat.{ℕ, ◌+◌, ◌<◌, ◌^◌}
use native.Mathlib.Nat.{add-zero, add_assoc}
use native.Mathlib.Omega.{arith}
use lib.ListN.{length, take, set, get_or}
use lib.Seq.{take-length}
use Rattle.num_text.specs.Put.{Put}
use Rattle.num_text.proofs.PutLaws.{put_none, put_within, put_more, put_same, put_length}
use Rattle.num_text.proofs.text.copy.Goals as goal

pub loop-i-init : goal.loop-i-init
loop-i-init c = rw add-zero (put_none _ _ (omega arith))

pub bounds-out-at : goal.bounds-out-at
bounds-out-at c = omega (arith, c.loop-i-test.true, put_length _ c.loop-i.invariant)

pub loop-i-preserved : goal.loop-i-preserved
loop-i-preserved c =
    let l = c.loop-i in
    step c.args.s.now l.i c.loop-i-test.true (omega (arith, c.loop-i-test.true, put_length _ l.invariant)) l.invariant
  where
    step : {d e : List ℕ} {at : ℕ} (s : List ℕ) (i : ℕ) → i < length s → at + i < length e → Put d at (take i s) e (at + i)
        → Put d at (take (i + 1) s) (set e (at + i) (get_or s i 0)) (at + (i + 1))
    step {d} {e} {at} s i h k a =
        let room : length e < 2 ^ 63 = omega (arith, put_length _ a, a.room) in
        rw (← add_assoc) (put_more s i h a (put_within e (at + i) (get_or s i 0) room k))

pub returns : goal.returns
returns c =
    let l = c.loop-i in
    let all : l.i ≡ length c.args.s.now = omega (arith, l.auto.i-end, c.loop-i-test.false) in
    put_same _ _ (take-length c.args.s.now) (rw all at l.invariant)
