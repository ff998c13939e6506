-- One rule after the other: what each leaves for the next, and all of them together.
use mathlib.Core.Path.{◌≡◌}
use mathlib.Core.List.{List}
use Prim.Native.Nat.{ℕ, ◌+◌, ◌≤◌}
use native.Mathlib.Omega.{arith}
use lib.ListN.{length}
use lib.Ieee.{Float, nan}
use Rattle.list_laws.specs.Region.{Outside}
use Rattle.list_laws.proofs.Outside.{outside_then, outside_wide}
use Rattle.file_part.specs.Part.{part_of}
use Rattle.scratch.specs.declared.regions.Regions.{Regions}
use Rattle.scratch.specs.Regions.{Laid}
use Rattle.scratch.specs.Standing.{Standing}
use Rattle.scratch.proofs.StandingLaws.{placed_polygons}
use Rattle.solid_ranks.specs.Kept.{RanksPut}
use Rattle.solid_ranks.proofs.KeptLaws.{ranked_kept}
use Rattle.wall_samples.specs.Samples.{readings_of}
use Rattle.wall_samples.specs.Stored.{Readings}
use Rattle.wall_samples.proofs.ReadingLaws.{readings_most}
use Rattle.wall_pairs.specs.Work.{WallsPut}
use Rattle.wall_pairs.proofs.KeptLaws.{readings_kept}
use Rattle.fault_row.specs.Flaws.{FlawsPut}
use Rattle.fault_row.proofs.FlawLaws.{flaws_then}
use Rattle.rule_corners.specs.fault_text.specs.Good.{Good}
use Rattle.rule_corners.specs.Work.{CornersPut}
use Rattle.rule_corners.specs.Sharp.{sharp_corners}
use Rattle.rule_machining.specs.Machining.{thin_walls, rounds_flaws}
use Rattle.rule_machining.specs.All.{machining, MachiningPut}
use Rattle.rule_machining.specs.Work.{Ready, RulePut, WallsFound}

-- ---- the walls: readings, ranks, the sort
module _ (s : List ℕ) (at : Regions) (words words1 words2 : List ℕ) (reals reals1 reals2 : List Float) (h : Standing s at words reals)
    (readings : Readings (part_of s) at words1 reals1) (standing : Standing s at words1 reals1)
    (w1 : Outside 0 at.readings at.kinds words words1) (r1 : Outside nan at.falling at.rounds reals reals1) (ranks : RanksPut s at words1 words2 reals1 reals2) where
  pub readings_there : Readings (part_of s) at words2 reals2
  readings_there = readings_kept s at words1 words2 reals1 reals2 ranks.only standing readings

  abbrev laid : Laid at
  laid = h.placed.laid

  ranks_outside : Outside 0 at.order at.words words1 words2
  ranks_outside = record { below = ranks.only.before; above = ranks.only.past; long = ranks.only.long }

  module _ (words3 : List ℕ) (reals3 : List Float) (walls : WallsPut s at words2 words3 reals2 reals3) where
    pub walls_words : Outside 0 at.items at.words words words3
    walls_words =
        outside_then 0 _ _ words words1 words3 (outside_wide 0 _ _ _ _ words words1 (omega (arith, laid)) (omega (arith, laid)) w1)
        (outside_then 0 _ _ words1 words2 words3 (outside_wide 0 _ _ _ _ words1 words2 (omega (arith, laid)) (omega arith) ranks_outside)
        (outside_wide 0 _ _ _ _ words2 words3 (omega (arith, laid)) (omega (arith, laid)) walls.words_kept))

    pub walls_reals : Outside nan at.falling at.free reals reals3
    walls_reals =
        outside_then nan _ _ reals reals1 reals3 (outside_wide nan _ _ _ _ reals reals1 (omega arith) (omega (arith, laid)) r1)
        (outside_then nan _ _ reals1 reals2 reals3 (outside_wide nan _ _ _ _ reals1 reals2 (omega arith) (omega (arith, laid)) ranks.only.keys)
        (outside_wide nan _ _ _ _ reals2 reals3 (omega arith) (omega (arith, laid)) walls.reals_kept))

    pub walls_found : (m k : ℕ) (cells cells' : List ℕ) (numbers numbers' : List Float) → m ≡ length (readings_of (part_of s)) →
        FlawsPut (Good (part_of s)) 0 (thin_walls (part_of s)) cells cells' numbers numbers' k → k ≤ 0 + length (readings_of (part_of s)) →
        WallsFound s at words words3 reals reals3 cells cells' numbers numbers' (record { readings = m; faults = k })
    walls_found m k cells cells' numbers numbers' count put most =
        record {
          rule = record {
            ready = record { standing = walls.ordered.standing; ranked = walls.ordered.ranked };
            put = put;
            words_kept = walls_words;
            reals_kept = walls_reals;
          };
          readings = count;
          few = omega (arith, most, readings_most (part_of s), placed_polygons s at h.placed, laid);
        }

-- ---- the rounds
module _ (s : List ℕ) (at : Regions) (words words1 : List ℕ) (reals reals1 : List Float) (h : Ready s at words reals) (standing : Standing s at words1 reals1)
    (w1 : Outside 0 at.kinds at.ranks words words1) (r1 : Outside nan at.rounds at.free reals reals1) where
  pub rounds_found : (from k : ℕ) (cells cells' : List ℕ) (numbers numbers' : List Float) →
      FlawsPut (Good (part_of s)) from (rounds_flaws (part_of s)) cells cells' numbers numbers' k →
      RulePut rounds_flaws s at from words words1 reals reals1 cells cells' numbers numbers' k
  rounds_found from k cells cells' numbers numbers' put =
      let laid = h.standing.placed.laid in
      record {
        ready = record {
          standing = standing;
          ranked = ranked_kept (part_of s) at words words1 (λ f l. w1.above (at.ranks + f) (omega arith)) h.ranked;
        };
        put = put;
        words_kept = outside_wide 0 _ _ _ _ words words1 (omega (arith, laid)) (omega (arith, laid)) w1;
        reals_kept = outside_wide nan _ _ _ _ reals reals1 (omega (arith, laid)) (omega arith) r1;
      }

-- ---- the corners
pub corners_found : (s : List ℕ) (at : Regions) (words words1 : List ℕ) (reals reals1 : List Float) (m : ℕ) → Ready s at words reals → CornersPut s at words words1 reals reals1 m →
    (from k : ℕ) (cells cells' : List ℕ) (numbers numbers' : List Float) →
    FlawsPut (Good (part_of s)) from (sharp_corners (part_of s)) cells cells' numbers numbers' k →
    RulePut sharp_corners s at from words words1 reals reals1 cells cells' numbers numbers' k
corners_found s at words words1 reals reals1 m h corners from k cells cells' numbers numbers' put =
    let laid = h.standing.placed.laid in
    record {
      ready = record { standing = corners.ordered.standing; ranked = corners.ordered.ranked };
      put = put;
      words_kept = outside_wide 0 _ _ _ _ words words1 (omega arith) (omega (arith, laid)) corners.words_kept;
      reals_kept = outside_wide nan _ _ _ _ reals reals1 (omega (arith, laid)) (omega arith) corners.reals_kept;
    }

-- ---- all of them
pub all_found : (s : List ℕ) (at : Regions) (w0 w1 w2 w3 : List ℕ) (r0 r1 r2 r3 : List Float) (c0 c1 c2 c3 : List ℕ) (n0 n1 n2 n3 : List Float) (i j k : ℕ) →
    RulePut thin_walls s at 0 w0 w1 r0 r1 c0 c1 n0 n1 i → RulePut rounds_flaws s at i w1 w2 r1 r2 c1 c2 n1 n2 j → RulePut sharp_corners s at j w2 w3 r2 r3 c2 c3 n2 n3 k →
    k ≤ 65536 → MachiningPut s at w0 w3 r0 r3 c0 c3 n0 n3 k
unfolding machining
all_found s at w0 w1 w2 w3 r0 r1 r2 r3 c0 c1 c2 c3 n0 n1 n2 n3 i j k walls rounds corners few =
    record {
      put = flaws_then walls.put (flaws_then rounds.put corners.put);
      few = few;
      standing = corners.ready.standing;
      ranked = corners.ready.ranked;
      words_kept = outside_then 0 _ _ w0 w1 w3 walls.words_kept (outside_then 0 _ _ w1 w2 w3 rounds.words_kept corners.words_kept);
      reals_kept = outside_then nan _ _ r0 r1 r3 walls.reals_kept (outside_then nan _ _ r1 r2 r3 rounds.reals_kept corners.reals_kept);
    }
