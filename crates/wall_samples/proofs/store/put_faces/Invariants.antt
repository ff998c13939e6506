-- `wall_samples::store::put_faces` meets its contract.
use Rattle.wall_samples.proofs.FaceLaws.{FacesPut}
use Rattle.wall_samples.proofs.store.put_faces.Given as goal

abbrev pub invariant-loop-f : goal.invariant-loop-f
invariant-loop-f l = FacesPut l.file l.at l.initial.words l.initial.reals l.f l.words l.reals l.k
