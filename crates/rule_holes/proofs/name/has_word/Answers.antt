-- `rule_holes::name::has_word` meets its contract: the word starts at none of the places that are passed.
use mathlib.Core.Path.{sym, ◌∙◌}
use Rattle.rule_holes.proofs.NameLaws.{none_start, none_found, none_more, none_end}
use native.Mathlib.Omega.{arith}
use Rattle.rule_holes.proofs.name.has_word.Goals as goal

pub loop-at-init : goal.loop-at-init
loop-at-init c = none_start _ _

pub starts_with-requires : goal.starts_with-requires
starts_with-requires c = omega (arith, c.loop-at-test.true)

pub returns-then-starts_with : goal.returns-then-starts_with
returns-then-starts_with c =
    none_found _ _ c.loop-at.at (omega (arith, c.loop-at-test.true)) c.loop-at.invariant (sym c.starts_with.ensures ∙ c.if-starts_with.true)

pub loop-at-preserved : goal.loop-at-preserved
loop-at-preserved c =
    none_more _ _ c.loop-at.at (omega (arith, c.loop-at-test.true)) c.loop-at.invariant (sym c.starts_with.ensures ∙ c.if-starts_with.false)

pub starts_with-requires-2 : goal.starts_with-requires-2
starts_with-requires-2 c = omega arith

pub returns : goal.returns
returns c =
    c.starts_with-2.ensures ∙ none_end _ _ c.loop-at.at (omega (arith, c.loop-at-test.false)) c.loop-at.invariant
