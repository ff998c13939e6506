-- `num_root::positive` meets its contract.
use Rattle.std.proofs.Common.{◌≡◌, ℕ, ◌*◌, ◌%◌, ◌^◌, subst, arith, rules}
use lib.Bits.{bit_and}
use Rattle.num_root.specs.Work.{Near}
use Rattle.num_root.proofs.Exponent.{parity, scaled, shifted, small, pattern}
use Rattle.num_root.proofs.positive.Goals as goal

pub overflow_shl-m : goal.overflow_shl-m
overflow_shl-m c = omega (arith, parity c.args.e)

pub guess-requires : goal.guess-requires
guess-requires c = omega (arith, parity c.args.e)

pub certify-requires : goal.certify-requires
certify-requires c =
    let m-is : (c.args.q * 2 ^ bit_and c.args.e 1) % 2 ^ 64 ≡ c.args.q * 2 ^ bit_and c.args.e 1 = shifted c.args.q (bit_and c.args.e 1) c.requires.1 (omega (arith, parity c.args.e)) in
    let d = scaled c.args.q (bit_and c.args.e 1) c.requires.0 c.requires.1 (omega (arith, parity c.args.e)) in
    omega (arith, m-is, d.least, d.most)

pub overflow_add-result : goal.overflow_add-result
overflow_add-result c =
    let m-is : (c.args.q * 2 ^ bit_and c.args.e 1) % 2 ^ 64 ≡ c.args.q * 2 ^ bit_and c.args.e 1 = shifted c.args.q (bit_and c.args.e 1) c.requires.1 (omega (arith, parity c.args.e)) in
    let near : Near (c.args.q * 2 ^ bit_and c.args.e 1 * 2 ^ 52) c.certify.result = subst (λ (m : ℕ). Near (m * 2 ^ 52) c.certify.result) m-is c.certify.ensures in
    omega (arith, small c.args.q c.args.e c.certify.result c.requires.0 c.requires.1 near)

pub returns : goal.returns
returns c =
    let m-is : (c.args.q * 2 ^ bit_and c.args.e 1) % 2 ^ 64 ≡ c.args.q * 2 ^ bit_and c.args.e 1 = shifted c.args.q (bit_and c.args.e 1) c.requires.1 (omega (arith, parity c.args.e)) in
    let near : Near (c.args.q * 2 ^ bit_and c.args.e 1 * 2 ^ 52) c.certify.result = subst (λ (m : ℕ). Near (m * 2 ^ 52) c.certify.result) m-is c.certify.ensures in
    pattern c.args.q c.args.e c.certify.result c.requires.0 c.requires.1 c.requires.2 c.requires.3 near
