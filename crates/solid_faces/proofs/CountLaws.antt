-- There are no more faces than polygons.
use Prim.Native.Nat.{◌≤◌}
use Rattle.list_laws.proofs.Count.{count_le}
use Rattle.solid_polygon.specs.file_part.specs.Part.{Part}
use Rattle.solid_faces.specs.Faces.{is_new, face_count, faces_of}

pub few_faces : (t : Part) → faces_of t ≤ t.polygons
unfolding faces_of face_count
few_faces t = count_le t.polygons (is_new t)
