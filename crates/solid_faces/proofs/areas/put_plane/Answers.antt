-- `solid_faces::areas::put_plane` meets its contract.
use mathlib.Core.Path.{refl}
use Rattle.solid_faces.specs.Work.{put_plane}
use Rattle.solid_faces.proofs.areas.put_plane.Goals as goal

pub returns : goal.returns
unfolding put_plane
returns c = refl
