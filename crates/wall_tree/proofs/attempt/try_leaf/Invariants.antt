-- `wall_tree::attempt::try_leaf` meets its contract.
use Rattle.file_part.specs.Part.{part_of}
use Rattle.wall_tree.specs.Work.{Kept}
use Rattle.wall_tree.proofs.attempt.try_leaf.Given as goal

abbrev pub invariant-loop-x : goal.invariant-loop-x
invariant-loop-x l = Kept (part_of l.file) l.ray l.words l.a l.initial.kept → Kept (part_of l.file) l.ray l.words l.x l.kept
