-- `rule_holes::name::has_word` meets its contract: the word starts at none of the places that are passed.
use Rattle.rule_holes.proofs.NameLaws.{NoneTo}
use Rattle.rule_holes.proofs.name.has_word.Given as goal

abbrev pub invariant-loop-at : goal.invariant-loop-at
invariant-loop-at l = NoneTo l.word l.text l.at
