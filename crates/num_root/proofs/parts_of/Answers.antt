-- `num_root::parts_of` meets its contract: a normal number and a subnormal one are laws of `Fields.antt`.
use Rattle.std.proofs.Common.{ℕ, ◌-◌, ◌≤◌, sym, subst, arith, rules}
use lib.Bits.{and_le_r}
use lib.Count.{count_leading_zeros}
use Rattle.num_root.specs.Work.{DigitsOf}
use Rattle.num_root.proofs.Fields.{Lifted, lifted, lifted_shift, normal_root, subnormal_root}
use Rattle.num_root.proofs.parts_of.Goals as goal

pub overflow_add-result : goal.overflow_add-result
overflow_add-result c = omega (arith, and_le_r c.args.b 0xFFFFFFFFFFFFF)

pub returns-then-b-ge-LEADING : goal.returns-then-b-ge-LEADING
returns-then-b-ge-LEADING c =
    let b = c.args.b in
    let l = and_le_r b 0xFFFFFFFFFFFFF in
    record {
      root_is = normal_root b c.if-b-ge-LEADING.true c.requires.1;
      low = omega arith;
      high = omega arith;
      least = omega arith;
      most = omega arith;
    }

pub overflow_sub-s : goal.overflow_sub-s
overflow_sub-s c =
    let lift : Lifted c.args.b (count_leading_zeros 64 c.args.b) = lifted c.args.b c.requires.0 c.if-b-ge-LEADING.false in omega (arith, lift.least)

pub overflow_cast-n : goal.overflow_cast-n
overflow_cast-n c =
    let lift : Lifted c.args.b (count_leading_zeros 64 c.args.b) = lifted c.args.b c.requires.0 c.if-b-ge-LEADING.false in omega (arith, lift.most)

pub overflow_shl-result : goal.overflow_shl-result
overflow_shl-result c =
    let lift : Lifted c.args.b (count_leading_zeros 64 c.args.b) = lifted c.args.b c.requires.0 c.if-b-ge-LEADING.false in omega (arith, lift.most)

pub overflow_sub-result : goal.overflow_sub-result
overflow_sub-result c =
    let lift : Lifted c.args.b (count_leading_zeros 64 c.args.b) = lifted c.args.b c.requires.0 c.if-b-ge-LEADING.false in omega (arith, lift.most)

pub returns : goal.returns
returns c =
    let lift : Lifted c.args.b (count_leading_zeros 64 c.args.b) = lifted c.args.b c.requires.0 c.if-b-ge-LEADING.false in
    let b = c.args.b in
    let n = count_leading_zeros 64 b - 11 in
    let l = lift in
    let k : n ≤ 1074 = omega (arith, l.most) in
    subst (λ (q : ℕ). DigitsOf b q (1074 - n)) (sym (lifted_shift b (count_leading_zeros 64 b) l))
    (record {
      root_is = subnormal_root b n c.requires.0 c.if-b-ge-LEADING.false k;
      low = l.low;
      high = l.high;
      least = omega (arith, l.most);
      most = omega arith;
    })
