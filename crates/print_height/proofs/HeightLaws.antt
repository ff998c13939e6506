-- The loop over the vertices, one step each.
use mathlib.Core.Path.{◌≡◌, refl, sym, ◌∙◌, subst}
use mathlib.Core.List.{List}
use Prim.Native.Nat.{ℕ, ◌+◌, ◌*◌, ◌≤◌, ◌<◌}
use native.Mathlib.Numerals.{add-one}
use native.Mathlib.Nat.{le_antisymm}
use native.Mathlib.Omega.{arith}
use lib.ListN.{length}
use lib.Ieee.{Float, binary64, of_bits}
use Rattle.math.specs.declared.Vec3.{Vec3}
use Rattle.math.specs.Vector.{dot_of}
use Rattle.math.specs.Size.{VecWithin}
use Rattle.file_field.specs.Field.{vec_at_of}
use Rattle.file_part.specs.Layout.{vertex_count_of}
use Rattle.file_part.specs.Part.{Part, part_of}
use Rattle.file_part.proofs.PartLaws.{part_vertices, part_vertex}
use Rattle.file_ok.proofs.ReadableLaws.{readable_vertex, readable_vertex_room, readable_counts}
use Rattle.solid_faces.specs.Faces.{Checked}
use Rattle.solid_faces.proofs.BodyLaws.{readable_long, checked_readable}
use Rattle.round_frame.specs.declared.extent.Extent.{Extent}
use Rattle.round_frame.specs.Frame.{nowhere, reach}
use Rattle.print_height.specs.Height.{heights_to}

-- ---- a file's vertices
pub checked_long : (s : List ℕ) → Checked s → 16 ≤ length s
checked_long s h = readable_long s (checked_readable s h)

pub vertex_room : (s : List ℕ) (n i : ℕ) → Checked s → n ≡ vertex_count_of s → i < n →
    (24 * i + 24 ≤ length s) × VecWithin (vec_at_of s (24 * i)) 10000
vertex_room s n i h e l =
    let low : i < vertex_count_of s = omega (arith, e, l) in
    (readable_vertex_room s (checked_readable s h) i low, readable_vertex s (checked_readable s h) i low)

pub few_vertices : (s : List ℕ) (n : ℕ) → Checked s → n ≡ vertex_count_of s → n ≤ 16384
few_vertices s n h e = omega (arith, e, (readable_counts s (checked_readable s h)).0)

-- ---- the loop
pub heights_none : (t : Part) (up : Vec3) → record { lo = of_bits binary64 0x7ff0_0000_0000_0000; hi = of_bits binary64 0xfff0_0000_0000_0000 } ≡ heights_to t up 0
unfolding heights_to nowhere of_bits
heights_none t up = refl

pub heights_more : (s : List ℕ) (up : Vec3) (i : ℕ) (e r : Extent) (v : Vec3) (h : Float) → e ≡ heights_to (part_of s) up i → v ≡ vec_at_of s (24 * i) → h ≡ dot_of v up →
    r ≡ reach e h → r ≡ heights_to (part_of s) up (i + 1)
unfolding heights_to
heights_more s up i e r v h a b c d = d ∙ rw (c, b, ← (part_vertex s i), a, add-one)

pub heights_all : (s : List ℕ) (up : Vec3) (n i : ℕ) (e : Extent) → n ≡ vertex_count_of s → i ≤ n → n ≤ i → e ≡ heights_to (part_of s) up i →
    e ≡ heights_to (part_of s) up (part_of s).vertices
heights_all s up n i e k l m h =
    subst (λ (j : ℕ). e ≡ heights_to (part_of s) up j) (le_antisymm l m ∙ k ∙ sym (part_vertices s)) h
