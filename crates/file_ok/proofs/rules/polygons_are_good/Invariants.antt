-- `file_ok::rules::polygons_are_good` meets its contract.
use Rattle.std.proofs.Common.{◌≡◌, ◌≤◌, true}
use Rattle.list_laws.specs.Below.{all_below}
use Rattle.file_ok.specs.Rules.{run_start, polygon_good}
use Rattle.file_ok.proofs.rules.polygons_are_good.Given as goal

abbrev pub invariant-loop-p : goal.invariant-loop-p
invariant-loop-p l = (l.first ≤ l.vertices) × (l.first ≡ run_start l.file l.vertices l.p) × (all_below l.p (polygon_good l.file l.vertices) ≡ true)
