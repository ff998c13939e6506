-- Readings, rounds and edges, put one after the other: what each leaves for the next, and all of them together.
use mathlib.Core.Path.{◌≡◌, sym, ◌∙◌, subst}
use mathlib.Core.List.{List}
use Prim.Native.Nat.{ℕ, ◌+◌, ◌≤◌}
use native.Mathlib.Omega.{arith}
use lib.ListN.{length}
use lib.Ieee.{Float, nan}
use Rattle.list_laws.specs.Region.{Outside}
use Rattle.list_laws.proofs.Outside.{outside_then, outside_wide, outside_part, outside_after}
use Rattle.file_part.specs.Part.{part_of}
use Rattle.solid_faces.specs.Faces.{faces_of}
use Rattle.scratch.specs.declared.regions.Regions.{Regions}
use Rattle.scratch.specs.Regions.{Laid}
use Rattle.scratch.specs.Standing.{Standing}
use Rattle.scratch.proofs.StandingLaws.{placed_polygons}
use Rattle.solid_ranks.specs.Kept.{Ranked}
use Rattle.solid_ranks.proofs.KeptLaws.{ranked_kept}
use Rattle.solid_tours.specs.Work.Kept.{EdgesPut}
use Rattle.wall_samples.specs.Samples.{readings_of}
use Rattle.wall_samples.specs.Stored.{Readings}
use Rattle.wall_samples.proofs.ReadingLaws.{readings_most, readings_kept}
use Rattle.round_all.specs.Kept.{KeptKinds, KeptMeasures, Rounds}
use Rattle.rule_sheet.specs.Work.{ReadyPut}

module _ (s : List ℕ) (at : Regions) (w0 w1 w2 : List ℕ) (r0 r1 r2 : List Float) (h : Standing s at w0 r0) (ranked : Ranked (part_of s) at w0)
    (readings : Readings (part_of s) at w1 r1) (cells1 : Outside 0 at.readings at.kinds w0 w1) (reals1 : Outside nan at.falling at.rounds r0 r1)
    (rounds : Rounds (part_of s) at w2 r2) (standing : Standing s at w2 r2) (cells2 : Outside 0 at.kinds at.ranks w1 w2) (reals2 : Outside nan at.rounds at.free r1 r2) where
  abbrev laid : Laid at
  laid = h.placed.laid

  most : length (readings_of (part_of s)) ≤ at.polygons
  most = omega (arith, readings_most (part_of s), placed_polygons s at h.placed)

  -- the ranks are past what changes
  pub ranked_still : Ranked (part_of s) at w2
  ranked_still = ranked_kept (part_of s) at w0 w2 (λ f l. cells2.above (at.ranks + f) (omega arith) ∙ cells1.above (at.ranks + f) (omega (arith, laid))) ranked

  readings_then : Readings (part_of s) at w2 r2
  readings_then =
      readings_kept (part_of s) at at.ranks at.free w1 w2 r1 r2 laid (placed_polygons s at h.placed)
      (outside_wide 0 _ _ _ _ w1 w2 (omega (arith, laid)) (omega arith) cells2) reals2 readings

  module _ (w3 : List ℕ) (r3 : List Float) (e : ℕ) (edges : EdgesPut s at w2 w3 r2 r3 e) where
    readings_there : Readings (part_of s) at w3 r3
    readings_there =
        record {
          stored = record {
            polygons = λ k low. edges.words_kept.above (at.readings + k) (omega (arith, laid)) ∙ readings_then.stored.polygons k low;
            hits = λ k low. edges.words_kept.above (at.hits + k) (omega (arith, laid)) ∙ readings_then.stored.hits k low;
            thickness = λ k low. edges.reals_kept.below (at.thickness + k) (omega (arith, low, most, laid)) ∙ readings_then.stored.thickness k low;
            areas = λ k low. edges.reals_kept.below (at.weights + k) (omega (arith, low, most, laid)) ∙ readings_then.stored.areas k low;
          };
        }

    rounds_there : Rounds (part_of s) at w3 r3
    rounds_there =
        record {
          kinds = subst (KeptKinds (part_of s) (faces_of (part_of s)))
              (sym (outside_after 0 _ _ at.kinds at.ranks w2 w3 (omega (arith, laid)) (omega (arith, laid, standing.words_room)) edges.words_kept)) rounds.kinds;
          measures = subst (KeptMeasures (part_of s) (faces_of (part_of s)))
              (sym (outside_part nan _ _ at.rounds at.directions r2 r3 (omega arith) (omega (arith, laid, standing.reals_room)) edges.reals_kept)) rounds.measures;
        }

    pub words_all : Outside 0 at.items at.ranks w0 w3
    words_all =
        outside_then 0 _ _ w0 w1 w3 (outside_wide 0 _ _ _ _ w0 w1 (omega (arith, laid)) (omega (arith, laid)) cells1)
        (outside_then 0 _ _ w1 w2 w3 (outside_wide 0 _ _ _ _ w1 w2 (omega (arith, laid)) (omega arith) cells2)
        (outside_wide 0 _ _ _ _ w2 w3 (omega arith) (omega (arith, laid)) edges.words_kept))

    pub reals_all : Outside nan at.falling at.reals r0 r3
    reals_all =
        outside_then nan _ _ r0 r1 r3 (outside_wide nan _ _ _ _ r0 r1 (omega arith) (omega (arith, laid)) reals1)
        (outside_then nan _ _ r1 r2 r3 (outside_wide nan _ _ _ _ r1 r2 (omega (arith, laid)) (omega (arith, laid)) reals2)
        (outside_wide nan _ _ _ _ r2 r3 (omega (arith, laid)) (omega arith) edges.reals_kept))

    pub ready_put : (m : ℕ) → m ≡ length (readings_of (part_of s)) →
        ReadyPut s at w0 w3 r0 r3 (record { readings = m; items = e })
    ready_put m count =
        record {
          items_are = edges.count;
          readings_are = count;
          readings = readings_there;
          rounds = rounds_there;
          ordered = edges.ordered;
          words_kept = words_all;
          reals_kept = reals_all;
        }
