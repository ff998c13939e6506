-- `num_root::excess` meets its contract: each way out is a law of `Squares.antt`.
use Rattle.std.proofs.Common.{◌/◌, ◌^◌, arith, rules}
use lib.Bits.{bit_and}
use Rattle.num_root.proofs.Squares.{Cut, cut, under54, first_out, second_out, third}
use Rattle.num_root.proofs.excess.Goals as goal

pub overflow_mul-h : goal.overflow_mul-h
overflow_mul-h c =
    let k : Cut c.args.c (c.args.c / 2 ^ 27) (bit_and c.args.c 134217727) = cut c.args.c c.requires.1 in
    omega (arith, under54 _ _ k.high k.high)

pub overflow_mul-h-2 : goal.overflow_mul-h-2
overflow_mul-h-2 c =
    let k : Cut c.args.c (c.args.c / 2 ^ 27) (bit_and c.args.c 134217727) = cut c.args.c c.requires.1 in
    omega (arith, under54 _ _ k.high k.high)

pub returns-then-d-ge2147483648 : goal.returns-then-d-ge2147483648
returns-then-d-ge2147483648 c =
    let k : Cut c.args.c (c.args.c / 2 ^ 27) (bit_and c.args.c 134217727) = cut c.args.c c.requires.1 in
    first_out _ _ _ _ _ k c.requires.0 (omega arith) c.wrapping_sub_u64-d.ensures.value _ c.if-d-ge2147483648.true
    c.out_of_range.ensures

pub overflow_mul-h-3 : goal.overflow_mul-h-3
overflow_mul-h-3 c =
    let k : Cut c.args.c (c.args.c / 2 ^ 27) (bit_and c.args.c 134217727) = cut c.args.c c.requires.1 in
    omega (arith, under54 _ _ k.high k.low)

pub returns-then-t-ge34359738368 : goal.returns-then-t-ge34359738368
returns-then-t-ge34359738368 c =
    let k : Cut c.args.c (c.args.c / 2 ^ 27) (bit_and c.args.c 134217727) = cut c.args.c c.requires.1 in
    second_out _ _ _ _ _ k c.requires.0 (omega arith) c.wrapping_sub_u64-d.ensures.value _ c.if-d-ge2147483648.false
    (omega arith) c.wrapping_sub_u64-t.ensures.value _ c.if-t-ge34359738368.true c.out_of_range-then-t-ge34359738368.ensures

pub overflow_mul-l : goal.overflow_mul-l
overflow_mul-l c =
    let k : Cut c.args.c (c.args.c / 2 ^ 27) (bit_and c.args.c 134217727) = cut c.args.c c.requires.1 in
    omega (arith, under54 _ _ k.low k.low)

pub returns : goal.returns
returns c =
    let k : Cut c.args.c (c.args.c / 2 ^ 27) (bit_and c.args.c 134217727) = cut c.args.c c.requires.1 in
    third _ _ _ _ _ k c.requires.0 (omega arith) c.wrapping_sub_u64-d.ensures.value _ c.if-d-ge2147483648.false
    (omega arith) c.wrapping_sub_u64-t.ensures.value _ c.if-t-ge34359738368.false (omega arith) c.wrapping_sub_u64.ensures.value
