-- `wall_ray::scan::misses` meets its contract: none is struck so far.
use Rattle.file_part.specs.Part.{part_of}
use Rattle.wall_ray.proofs.ScanLaws.{Missed}
use Rattle.wall_ray.proofs.scan.misses.Given as goal

abbrev pub invariant-loop-q : goal.invariant-loop-q
invariant-loop-q l = Missed (part_of l.file) l.ray l.q
