-- The steps of `pair_of`: ranks read from the scratch, and their key.
use mathlib.Core.Path.{◌≡◌, refl, sym, ap, ◌∙◌}
use mathlib.Core.Bool.{true, false}
use mathlib.Core.List.{List}
use Prim.Native.Nat.{ℕ, ◌+◌, ◌*◌, ◌≤◌, ◌<◌}
use native.Mathlib.Nat.{mul-le-mul}
use native.Mathlib.Omega.{arith}
use lib.Dec.{ltb}
use lib.Ieee.{Float}
use lib.ListN.{length, get_or}
use borrow.Author.Tests.{lt-ltb, le-ltb}
use Rattle.list_groups.specs.Work.{WholeIs}
use Rattle.list_groups.proofs.Pairs.{pair_below}
use Rattle.file_part.specs.Part.{Part, part_of}
use Rattle.solid_faces.specs.Faces.{faces_of}
use Rattle.solid_faces.proofs.BodyLaws.{checked_faces}
use Rattle.solid_faces.proofs.CountLaws.{few_faces}
use Rattle.solid_ids.specs.Ids.{face_before}
use Rattle.scratch.specs.declared.regions.Regions.{Regions}
use Rattle.scratch.specs.Standing.{Placed}
use Rattle.scratch.proofs.StandingLaws.{placed_polygons}
use Rattle.solid_ranks.specs.Ranks.{rank_of}
use Rattle.solid_ranks.specs.Kept.{Ranked}
use Rattle.solid_ranks.proofs.RankLaws.{before_rank, rank_below}
use Rattle.solid_pairs.specs.Pairs.{lower, higher}
use Rattle.solid_pairs.specs.Work.{PairIs}

pub key_small : (a b n : ℕ) → a < n → b < n → n ≤ 1024 → (a * n ≤ 1048576) × (a * n + b < 1048576)
key_small a b n h k l =
    let all : n * n ≤ 1024 * 1024 = mul-le-mul l l in
    let below : a * n + b < n * n = pair_below n a b h k in
    (omega (arith, all, below), omega (arith, all, below))

module _ (s : List ℕ) (at : Regions) (words : List ℕ) (n : ℕ) (placed : Placed s at) (room : at.words ≤ length words) (ranked : Ranked (part_of s) at words)
    (count : n ≡ faces_of (part_of s)) where
  pub few : n ≤ 1024
  few = omega (arith, count, checked_faces s placed.checked)

  pub rank_room : (f : ℕ) → f < n → at.ranks + f < length words
  rank_room f h = omega (arith, h, count, few_faces (part_of s), placed_polygons s at placed, placed.laid, room)

  rank_there : (f a : ℕ) → f < n → a ≡ get_or words (at.ranks + f) 0 → a ≡ rank_of (part_of s) f
  rank_there f a h e = e ∙ ranked.each f (omega (arith, h, count))

  pub rank_fits : (f a : ℕ) → f < n → a ≡ get_or words (at.ranks + f) 0 → a < n
  rank_fits f a h e = omega (arith, rank_there f a h e, rank_below (part_of s) f (omega (arith, h, count)), count)

  module _ (f g a b : ℕ) (lf : f < n) (lg : g < n) (ea : a ≡ get_or words (at.ranks + f) 0) (eb : b ≡ get_or words (at.ranks + g) 0) (x : Float) where
    abbrev t : Part
    t = part_of s

    -- the test of the code is that of the ids
    test : face_before t g f ≡ ltb b a
    test =
        before_rank t g f (omega (arith, lg, count)) (omega (arith, lf, count))
        ∙ ap (λ (k : ℕ). ltb k (rank_of t f)) (sym (rank_there g b lg eb)) ∙ ap (ltb b) (sym (rank_there f a lf ea))

    pub pair_turned : b < a → WholeIs (b * n + a) x → PairIs t f g (record { first = g; second = f; key = x })
    unfolding lower higher
    pair_turned less key =
        let e : face_before t g f ≡ true = test ∙ lt-ltb b a less in
        record {
          first = rw e refl;
          second = rw e refl;
          key = rw (e, ← rank_there g b lg eb, ← rank_there f a lf ea, ← count) key;
        }

    pub pair_straight : a ≤ b → WholeIs (a * n + b) x → PairIs t f g (record { first = f; second = g; key = x })
    unfolding lower higher
    pair_straight le key =
        let e : face_before t g f ≡ false = test ∙ le-ltb b a le in
        record {
          first = rw e refl;
          second = rw e refl;
          key = rw (e, ← rank_there g b lg eb, ← rank_there f a lf ea, ← count) key;
        }
