-- The functions that put the readings of a face, step by step, in the words of what they call.
use mathlib.Core.Path.{◌≡◌, refl, sym, ap, ◌∙◌, subst}
use mathlib.Core.Bool.{true, false, ◌&&◌}
use mathlib.Core.List.{List, [], ◌∷◌, ◌++◌}
use Prim.Native.Nat.{ℕ, ◌+◌, ◌*◌, ◌≤◌, ◌<◌}
use native.Mathlib.Omega.{arith}
use lib.Dec.{ltb}
use lib.ListN.{length, get_or}
use lib.Ieee.{Float, binary64, add, nan}
use borrow.Author.Tests.{ltb-true}
use Rattle.num_float.proofs.Tests.{and_left, and_right}
use Rattle.list_laws.specs.Region.{part}
use Rattle.list_laws.proofs.Regions.{part_length, part_place}
use Rattle.file_part.specs.Part.{part_of}
use Rattle.scratch.specs.declared.regions.Regions.{Regions}
use Rattle.scratch.specs.Standing.{Standing}
use Rattle.wall_tree.specs.wall_ray.specs.declared.strike.Hit.{Hit}
use Rattle.std.specs.Prelude.{Option, Some, None}
use Rattle.wall_tree.specs.wall_ray.specs.Nearest.{hit_of}
use Rattle.wall_starts.specs.Starts.{step_of}
use Rattle.wall_samples.specs.declared.cast.Reading.{Reading}
use Rattle.wall_samples.specs.Samples.{e_6, ray_of, readings_from, picks_to}
use Rattle.wall_samples.specs.Work.{back_hit, taken, put_polygons, put_measures, Added, Listed}
use Rattle.wall_samples.proofs.CastLaws.{readings_from_lem}
use Rattle.wall_samples.proofs.StoredLaws.{added_none, added_then, added_one}
use Rattle.wall_samples.proofs.PicksLaws.{picks_none, picks_more, picks_all, picks_few, step_up}

-- ---- one ray
taken_at : (q : ℕ) (x : Hit) → taken q (Some x) ≡ record { polygon = q; hit = x.polygon; thickness = add binary64 x.t e_6 } ∷ []
unfolding taken
taken_at q x = refl

taken_nothing : (q : ℕ) → taken q None ≡ []
unfolding taken
taken_nothing q = refl

module _ (s : List ℕ) (at : Regions) (k q : ℕ) (found : Option Hit) (is : found ≡ back_hit (part_of s) q (hit_of (part_of s) (ray_of (part_of s) q))) where
  pub pick_put : (x : Hit) (words words' : List ℕ) (reals reals' : List Float) → Standing s at words reals → k < at.polygons → q < at.polygons → found ≡ Some x →
      words' ≡ put_polygons at k (record { polygon = q; hit = x.polygon; thickness = add binary64 x.t e_6 }) words →
      reals' ≡ put_measures at k (record { polygon = q; hit = x.polygon; thickness = add binary64 x.t e_6 }) (get_or reals (at.areas + q) nan) reals →
      Added (part_of s) at at.order k (readings_from (part_of s) q) words words' reals reals' (k + 1)
  pick_put x words words' reals reals' h few low there ew er =
      let laid = h.placed.laid in
      subst (λ (l : List Reading). Added (part_of s) at at.order k l words words' reals reals' (k + 1)) (sym (readings_from_lem (part_of s) q found is ∙ ap (taken q) there ∙ taken_at q x))
      (added_one (part_of s) at laid k (record { polygon = q; hit = x.polygon; thickness = add binary64 x.t e_6 }) words words' reals reals' (get_or reals (at.areas + q) nan) few h.words_room h.reals_room
      (sym (part_place at.areas at.totals reals nan q (omega (arith, low, laid))) ∙ h.the_reals.areas.each q low) ew er)

  pub pick_none : (words : List ℕ) (reals : List Float) → found ≡ None → Added (part_of s) at at.order k (readings_from (part_of s) q) words words reals reals k
  pick_none words reals there =
      subst (λ (l : List Reading). Added (part_of s) at at.order k l words words reals reals k) (sym (readings_from_lem (part_of s) q found is ∙ ap (taken q) there ∙ taken_nothing q))
      (added_none (part_of s) at at.order k words reals)

-- ---- the rays of a face
-- what the loop's test says
pub goes_on : (i want place n : ℕ) → (ltb i want && ltb place n) ≡ true → (i < want) × (place < n)
goes_on i want place n h = (ltb-true i want (and_left (ltb i want) (ltb place n) h), ltb-true place n (and_right (ltb i want) (ltb place n) h))

module _ (s : List ℕ) (at : Regions) (k n step : ℕ) (words : List ℕ) (reals : List Float) (h : Standing s at words reals) (fits : k + n ≤ at.polygons) where
  -- the polygons of the face
  abbrev pub order : List ℕ
  order = part at.order (at.order + n) words

  -- after i picks
  abbrev pub Picked : ℕ → List ℕ → List Float → ℕ → Type 0
  Picked i b e m = Added (part_of s) at at.order k (picks_to (part_of s) order step i) words b reals e m

  order_length : length order ≡ n
  order_length = part_length at.order (at.order + n) words (omega (arith, fits, h.words_room, h.placed.laid)) ∙ omega arith

  pub picks_start : Picked 0 words reals k
  picks_start = subst (λ (l : List Reading). Added (part_of s) at at.order k l words words reals reals k) (sym (picks_none (part_of s) order step)) (added_none (part_of s) at at.order k words reals)

  module _ (i place m : ℕ) (b : List ℕ) (e : List Float) (is : place ≡ i * step) (before : Picked i b e m) where
    -- the polygon that is picked
    pub picked : (q : ℕ) → Listed at n words → place < n → q ≡ get_or b (at.order + place) 0 → q < at.polygons
    picked q polygons low cell = omega (arith, cell, before.words_kept.above (at.order + place) (omega arith), polygons.each place low)

    -- a reading more has its place
    pub pick_room : 1 ≤ step → place < n → m < at.polygons
    pick_room one low = omega (arith, before.count, (picks_few (part_of s) order step i one).0, step_up i step one, is, low, fits)

    pub picks_turn : (q r : ℕ) (c : List ℕ) (f : List Float) → place < n → q ≡ get_or b (at.order + place) 0 →
        Added (part_of s) at at.order m (readings_from (part_of s) q) b c e f r → Picked (i + 1) c f r
    picks_turn q r c f low cell one =
        subst (λ (l : List Reading). Added (part_of s) at at.order k l words c reals f r) (sym (picks_more (part_of s) order step i (omega (arith, is, low, order_length)) ∙ ap (λ (z : ℕ). picks_to (part_of s) order step i ++ readings_from (part_of s) z) here))
        (added_then (part_of s) at at.order k m r (picks_to (part_of s) order step i) (readings_from (part_of s) q) words b c reals e f before one)
      where
        here : get_or order (i * step) 0 ≡ q
        here =
            ap (λ (z : ℕ). get_or order z 0) (sym is) ∙ part_place at.order (at.order + n) words 0 place (omega (arith, low))
            ∙ sym (before.words_kept.above (at.order + place) (omega arith)) ∙ sym cell

    pub picks_done : (want : ℕ) → i ≤ want → (ltb i want && ltb place n) ≡ false → step ≡ step_of n want →
        Added (part_of s) at at.order k (picks_to (part_of s) order (step_of n want) want) words b reals e m
    picks_done want low past step_is =
        subst (λ (l : List Reading). Added (part_of s) at at.order k l words b reals e m)
        (picks_all (part_of s) order step i want n (sym order_length) low (subst (λ (z : ℕ). (ltb i want && ltb z n) ≡ false) is past) ∙ ap (λ (z : ℕ). picks_to (part_of s) order z want) step_is) before
