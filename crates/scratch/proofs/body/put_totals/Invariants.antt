-- `scratch::body::put_totals` meets its contract: past the areas of the faces nothing changes.
use lib.Ieee.{nan}
use Rattle.list_laws.specs.Region.{part, Outside}
use Rattle.file_part.specs.Part.{part_of}
use Rattle.solid_faces.specs.Work.{AreasTo}
use Rattle.scratch.proofs.body.put_totals.Given as goal

abbrev pub invariant-loop-q : goal.invariant-loop-q
invariant-loop-q l = Outside nan l.start l.end l.initial.reals l.reals × AreasTo (part_of l.file) l.q (part l.start l.end l.reals)
