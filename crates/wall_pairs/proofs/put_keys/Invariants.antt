-- `wall_pairs::put_keys` meets its contract.
use Rattle.list_groups.specs.Work.{KeysPut}
use Rattle.file_part.specs.Part.{part_of}
use Rattle.solid_pairs.specs.Work.{item_key}
use Rattle.wall_pairs.specs.Walls.{face_from, face_hit}
use Rattle.wall_pairs.proofs.put_keys.Given as goal

abbrev pub invariant-loop-s : goal.invariant-loop-s
invariant-loop-s l = KeysPut (item_key (part_of l.file) (face_from (part_of l.file)) (face_hit (part_of l.file))) l.at.falling l.s l.initial.reals l.reals
