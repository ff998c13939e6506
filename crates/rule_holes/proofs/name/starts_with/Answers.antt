-- `rule_holes::name::starts_with` meets its contract: std compares the bytes.
use mathlib.Core.Path.{ap, ◌∙◌}
use mathlib.Core.List.{List}
use Prim.Native.Nat.{ℕ, ◌-◌}
use native.Mathlib.Omega.{arith}
use lib.Dec.{eqb}
use lib.ListN.{length, drop, length-drop}
use Rattle.std.specs.List as list
use Rattle.std.proofs.lemmas.List.{take_all}
use Rattle.rule_holes.specs.Work.{starts_at}
use Rattle.rule_holes.proofs.NameLaws.{start_is}
use Rattle.rule_holes.proofs.name.starts_with.Goals as goal

pub returns : goal.returns
unfolding starts_at
returns c =
    let text = c.args.text.now in
    let word = c.args.word.now in
    let rest = drop c.args.at text in
    c.starts_with.ensures.value
    ∙ ap (λ (x : List ℕ). list.starts_with eqb x word) (take_all (length text - c.args.at) rest (omega (arith, length-drop c.args.at text)))
    ∙ start_is word rest
