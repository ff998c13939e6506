-- `num_root::sqrt` meets its contract: its three ways out are laws of `Signs.antt`.
use Rattle.std.proofs.Common.{◌≡◌, ℕ, Bool, not, T, sym, ap, ◌∙◌, subst, rules}
use lib.Ieee.{Float, binary64, fits, nan_bits, of_bits, to_bits}
use lib.Ieee.Bits.{of_bits-to_bits}
use Rattle.num_root.specs.Root.{root}
use Rattle.num_root.proofs.Signs.{above_no_nan, root_above, root_fits, pattern_no_nan, root_zero, root_none}
use Rattle.num_root.proofs.sqrt.Goals as goal

pub float_to_bits-x : goal.float_to_bits-x
float_to_bits-x c = above_no_nan c.args.x (subst T (sym c.if-x.true) tt)

pub float_from_bits-result : goal.float_from_bits-result
float_from_bits-result c =
    let held : T (fits binary64 c.args.x) = subst T (sym c.well_formed.0.1) tt in
    let result-is : c.sqrt_bits.result ≡ to_bits binary64 (root c.args.x) = c.sqrt_bits.ensures ∙ ap (λ (x : Float). to_bits binary64 (root x)) (of_bits-to_bits binary64 c.args.x held) in
    let x = c.args.x in
    subst (λ (b : ℕ). T (not (nan_bits binary64 b))) (sym result-is)
    (pattern_no_nan (root x) (root_fits x held) (root_above x (subst T (sym c.if-x.true) tt)))

pub returns-then-x : goal.returns-then-x
returns-then-x c =
    let held : T (fits binary64 c.args.x) = subst T (sym c.well_formed.0.1) tt in
    let result-is : c.sqrt_bits.result ≡ to_bits binary64 (root c.args.x) = c.sqrt_bits.ensures ∙ ap (λ (x : Float). to_bits binary64 (root x)) (of_bits-to_bits binary64 c.args.x held) in
    let x = c.args.x in
    ap (λ (b : ℕ). of_bits binary64 b) result-is ∙ of_bits-to_bits binary64 (root x) (root_fits x held)

pub returns-then-x-2 : goal.returns-then-x-2
returns-then-x-2 c = root_zero c.args.x (subst T (sym c.if-x-2.true) tt)

pub returns : goal.returns
returns c =
    root_none c.args.x (subst (λ (b : Bool). T (not b)) (sym c.if-x.false) tt) (subst (λ (b : Bool). T (not b)) (sym c.if-x-2.false) tt)
