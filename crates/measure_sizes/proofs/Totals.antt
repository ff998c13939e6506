-- The total area of a checked file.
use mathlib.Core.Path.{◌≡◌, refl}
use mathlib.Core.Bool.{false}
use mathlib.Core.List.{List}
use Prim.Native.Nat.{ℕ, ◌^◌}
use lib.Ieee.{is_nan}
use Rattle.num_float.proofs.NonNegative.{finite_number}
use Rattle.file_part.specs.Part.{part_of}
use Rattle.solid_faces.specs.Faces.{faces_of, Checked}
use Rattle.solid_faces.proofs.BodyLaws.{checked_readable, checked_faces}
use Rattle.solid_sizes.specs.Sizes.{Area}
use Rattle.solid_sizes.proofs.Areas.{areas_added}
use Rattle.wall_starts.specs.Starts.{areas_to, total_area_of}

pub total_area : (s : List ℕ) → Checked s → Area (total_area_of (part_of s)) (2 ^ 59)
unfolding total_area_of areas_to
total_area s h = areas_added s (checked_readable s h) (areas_to (part_of s)) (faces_of (part_of s)) refl (λ i l. refl) (checked_faces s h)

pub total_number : (s : List ℕ) → Checked s → is_nan (total_area_of (part_of s)) ≡ false
total_number s h = finite_number _ (total_area s h).within.is_finite
