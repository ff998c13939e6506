-- `obj_number::cut::find_by_four` meets its contract: four bytes at a time.
use mathlib.Core.Path.{◌≡◌, subst}
use mathlib.Core.List.{List}
use Prim.Native.Nat.{ℕ, ◌+◌, ◌<◌}
use lib.ListN.{length, get_or}
use Rattle.obj_number.specs.Work.{NoneTo}
use Rattle.obj_number.proofs.CutLaws.{none_start, none_more}
use native.Mathlib.Omega.{arith}
use Rattle.obj_number.proofs.cut.find_by_four.Goals as goal

one_more : (b : ℕ) (s : List ℕ) (j k : ℕ) → j + 1 ≡ k → NoneTo b s j → j < length s → (get_or s j 0 ≡ b → ⊥) → NoneTo b s k
one_more b s j k e p h n = subst (NoneTo b s) e (none_more b s j p h n)

second : (b : ℕ) (s : List ℕ) (i : ℕ) → NoneTo b s (i + 1) → i + 1 < length s → (get_or s (i + 1) 0 ≡ b → ⊥) → NoneTo b s (i + 2)
second b s i k h n = one_more b s (i + 1) (i + 2) (omega arith) k h n

third : (b : ℕ) (s : List ℕ) (i : ℕ) → NoneTo b s (i + 2) → i + 2 < length s → (get_or s (i + 2) 0 ≡ b → ⊥) → NoneTo b s (i + 3)
third b s i k h n = one_more b s (i + 2) (i + 3) (omega arith) k h n

fourth : (b : ℕ) (s : List ℕ) (i : ℕ) → NoneTo b s (i + 3) → i + 3 < length s → (get_or s (i + 3) 0 ≡ b → ⊥) → NoneTo b s (i + 4)
fourth b s i k h n = one_more b s (i + 3) (i + 4) (omega arith) k h n

pub loop-i-init : goal.loop-i-init
loop-i-init c = none_start _ _

pub overflow_sub-s : goal.overflow_sub-s
overflow_sub-s c = c.loop-i.invariant.inside

pub returns-then-s-i : goal.returns-then-s-i
returns-then-s-i c = c.loop-i.invariant

pub returns-then-s-i-2 : goal.returns-then-s-i-2
returns-then-s-i-2 c = none_more c.args.b c.args.s.now c.loop-i.i c.loop-i.invariant (omega (arith, c.loop-i-test.true)) c.if-s-i.false

pub returns-then-s-i-3 : goal.returns-then-s-i-3
returns-then-s-i-3 c = second c.args.b c.args.s.now c.loop-i.i (none_more c.args.b c.args.s.now c.loop-i.i c.loop-i.invariant (omega (arith, c.loop-i-test.true)) c.if-s-i.false) (omega (arith, c.loop-i-test.true)) c.if-s-i-2.false

pub returns-then-s-i-4 : goal.returns-then-s-i-4
returns-then-s-i-4 c = third c.args.b c.args.s.now c.loop-i.i (second c.args.b c.args.s.now c.loop-i.i (none_more c.args.b c.args.s.now c.loop-i.i c.loop-i.invariant (omega (arith, c.loop-i-test.true)) c.if-s-i.false) (omega (arith, c.loop-i-test.true)) c.if-s-i-2.false) (omega (arith, c.loop-i-test.true)) c.if-s-i-3.false

pub loop-i-preserved : goal.loop-i-preserved
loop-i-preserved c = fourth c.args.b c.args.s.now c.loop-i.i (third c.args.b c.args.s.now c.loop-i.i (second c.args.b c.args.s.now c.loop-i.i (none_more c.args.b c.args.s.now c.loop-i.i c.loop-i.invariant (omega (arith, c.loop-i-test.true)) c.if-s-i.false) (omega (arith, c.loop-i-test.true)) c.if-s-i-2.false) (omega (arith, c.loop-i-test.true)) c.if-s-i-3.false) (omega (arith, c.loop-i-test.true)) c.if-s-i-4.false

pub returns : goal.returns
returns c = c.loop-i.invariant
