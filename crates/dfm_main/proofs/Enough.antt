-- "scratch enough for any such file": what the program lends is never too little for a file of at most 16,384 bytes.
use mathlib.Core.Path.{◌≡◌, refl}
use mathlib.Core.Bool.{false}
use mathlib.Core.List.{List}
use Prim.Native.Nat.{ℕ, ◌≤◌}
use native.Mathlib.Omega.{arith}
use lib.ListN.{length}
use borrow.Author.Tests.{le-ltb}
use Rattle.file_part.specs.Layout.{vertex_count_of, polygon_count_of}
use Rattle.file_ok.proofs.ReadableLaws.{readable_length}
use Rattle.solid_faces.specs.Faces.{Checked}
use Rattle.solid_faces.proofs.BodyLaws.{checked_readable}
use Rattle.scratch.specs.Regions.{words_needed, reals_needed}
use Rattle.scratch.specs.Refusal.{too_little}

pub enough : (s : List ℕ) → length s ≤ 16384 → Checked s → too_little s 6432 7456 ≡ false
unfolding too_little
enough s short h =
    let size = readable_length s (checked_readable s h) in
    rw (
      le-ltb 6432 (words_needed (polygon_count_of s) (vertex_count_of s)) (omega (arith, short, size)),
      le-ltb 7456 (reals_needed (polygon_count_of s) (vertex_count_of s)) (omega (arith, short, size)),
    ) refl
