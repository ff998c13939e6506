-- `num_root::certify` meets its contract, by `certified` of `Squares.antt`.
use Rattle.std.proofs.Common.{◌+◌, ◌*◌, ltb, arith, rules}
use Rattle.num_root.proofs.Exponent.{low_n}
use Rattle.num_root.proofs.Squares.{bit_le, certified}
use Rattle.num_root.proofs.certify.Goals as goal

pub overflow_add-result : goal.overflow_add-result
overflow_add-result c =
    omega (arith, bit_le (ltb c.args.c c.excess-e.result))

pub overflow_add-result-then-e-c-2 : goal.overflow_add-result-then-e-c-2
overflow_add-result-then-e-c-2 c =
    let a = c.args.c in
    let e = c.excess-e.result in
    omega (arith, bit_le (ltb a e), bit_le (ltb (3 * a + 2) e))

pub returns-then-e-c : goal.returns-then-e-c
returns-then-e-c c =
    certified _ _ _ c.excess-e.ensures (low_n c.args.m c.requires.0) c.requires.2 c.if-e-c.true
