-- How far each reading's point is from the segments of its face: put one by one.
use mathlib.Core.Path.{◌≡◌, ap, ◌∙◌, subst}
use mathlib.Core.List.{List}
use mathlib.Core.Logic.{◌⊎◌, inl, inr}
use Prim.Native.Nat.{ℕ, ◌+◌, ◌≤◌, ◌<◌}
use native.Mathlib.Omega.{arith}
use lib.ListN.{length, get_or, set}
use lib.Seq.{get_or-set_same, get_or-set_other}
use lib.Ieee.{Float, nan}
use Rattle.num_float.proofs.Tests.{lt_or_ge}
use Rattle.list_laws.specs.Region.{Outside}
use Rattle.list_laws.proofs.Outside.{outside_none, outside_then, outside_set}
use Rattle.file_part.specs.Part.{Part, part_of}
use Rattle.solid_faces.specs.Faces.{faces_of}
use Rattle.solid_edges.specs.Distance.{edge_distance}
use Rattle.scratch.specs.declared.regions.Regions.{Regions}
use Rattle.scratch.specs.Standing.{Standing}
use Rattle.scratch.proofs.StandingLaws.{placed_polygons}
use Rattle.wall_samples.specs.declared.sample.Sample.{Sample}
use Rattle.wall_samples.specs.Samples.{readings_of, sample_of}
use Rattle.wall_samples.specs.Stored.{reading}
use Rattle.wall_samples.proofs.ReadingLaws.{readings_most}
use Rattle.wall_pairs.specs.Walls.{face_from}
use Rattle.wall_pairs.proofs.WallLaws.{walls_inside}
use Rattle.sheet_thickness.specs.Thickness.{reading_edge}
use Rattle.sheet_thickness.specs.Work.{DistancesPut}

-- those of the first m readings
pub record DistancesTo (t : Part) (at : Regions) (m : ℕ) (reals reals' : List Float) : Type 0 where
  pub each : (k : ℕ) → k < m → get_or reals' (at.falling + k) nan ≡ reading_edge t k
  pub kept : Outside nan at.falling at.thickness reals reals'

module _ (t : Part) (at : Regions) (reals : List Float) where
  pub distances_none : DistancesTo t at 0 reals reals
  distances_none = record { each = λ k l. absurd (omega (arith, l)); kept = outside_none nan at.falling at.thickness reals }

  pub distances_more : (k : ℕ) (reals' : List Float) (x : Float) → at.falling + k < at.thickness → at.falling + k < length reals → x ≡ reading_edge t k →
      DistancesTo t at k reals reals' → DistancesTo t at (k + 1) reals (set reals' (at.falling + k) x)
  distances_more k reals' x low inside is h =
      record {
        each = λ i l. go i l (lt_or_ge i k);
        kept = outside_then nan _ _ reals reals' (set reals' (at.falling + k) x) h.kept
            (outside_set nan at.falling at.thickness reals' (at.falling + k) x (omega arith) low);
      }
    where
      go : (i : ℕ) → i < k + 1 → (i < k) ⊎ (k ≤ i) → get_or (set reals' (at.falling + k) x) (at.falling + i) nan ≡ reading_edge t i
      go i l (inl before) = get_or-set_other reals' (at.falling + k) (at.falling + i) x nan (λ e. omega (arith, e, before)) ∙ h.each i before
      go i l (inr after) =
          let here : k ≡ i = omega (arith, l, after) in
          subst (λ (j : ℕ). get_or (set reals' (at.falling + k) x) (at.falling + j) nan ≡ reading_edge t j) here
          (get_or-set_same reals' (at.falling + k) x nan (omega (arith, inside, h.kept.long)) ∙ is)

  pub distances_all : (m k : ℕ) (reals' : List Float) → m ≡ length (readings_of t) → m ≤ k → DistancesTo t at k reals reals' → DistancesPut t at reals reals'
  distances_all m k reals' em past h = record { distances = record { each = λ i l. h.each i (omega (arith, l, em, past)) }; kept = h.kept }

-- ---- one reading
module _ (t : Part) (k : ℕ) (s : Sample) (es : s ≡ sample_of t (reading (readings_of t) k)) where
  face_is : s.face ≡ face_from t k
  unfolding face_from sample_of
  face_is = ap (λ (x : Sample). x.face) es

  pub face_below : (n : ℕ) → n ≡ faces_of t → k < length (readings_of t) → s.face < n
  face_below n en low = omega (arith, face_is, (walls_inside t k low).0, en)

  pub edge_is : (d : Float) → d ≡ edge_distance t s.face s.point → d ≡ reading_edge t k
  unfolding reading_edge face_from sample_of
  edge_is d e = e ∙ ap (λ (x : Sample). edge_distance t x.face x.point) es

-- ---- their cells
module _ (s : List ℕ) (at : Regions) (words : List ℕ) (reals : List Float) (g : Standing s at words reals) (m : ℕ) (em : m ≡ length (readings_of (part_of s))) where
  pub few : m ≤ at.polygons
  few = omega (arith, em, readings_most (part_of s), placed_polygons s at g.placed)

  pub key_low : (k : ℕ) → k < m → at.falling + k < at.thickness
  key_low k l = omega (arith, l, few, g.placed.laid)

  pub key_room : (k : ℕ) → k < m → at.falling + k < length reals
  key_room k l = omega (arith, l, few, g.placed.laid, g.reals_room)
