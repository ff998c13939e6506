-- `file_ok::rules::vertices_are_good` meets its contract.
use Rattle.std.proofs.Common.{◌≡◌, true}
use Rattle.file_ok.specs.Rules.{vertices_good}
use Rattle.file_ok.proofs.rules.vertices_are_good.Given as goal

abbrev pub invariant-loop-i : goal.invariant-loop-i
invariant-loop-i l = vertices_good l.file l.i ≡ true
