-- `rule_corners::corner::put_corners` meets its contract: the corners of the segments passed are kept.
use Prim.Native.Nat.{◌≤◌}
use lib.Ieee.{nan}
use Rattle.list_laws.specs.Region.{Outside}
use Rattle.file_part.specs.Part.{part_of}
use Rattle.rule_corners.specs.Work.{CornersTo}
use Rattle.rule_corners.proofs.corner.put_corners.Given as goal

abbrev pub invariant-loop-s : goal.invariant-loop-s
invariant-loop-s l = (l.m ≤ l.s) × CornersTo (part_of l.file) l.at l.s l.m l.words l.reals × Outside 0 l.at.items l.at.sorted l.initial.words l.words × Outside nan l.at.directions l.at.free l.initial.reals l.reals
