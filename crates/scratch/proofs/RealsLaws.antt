-- The f64 scratch, region by region: the loop that adds the areas of the faces, and all four regions after each other.
use mathlib.Core.Path.{◌≡◌, sym, ◌∙◌, subst}
use mathlib.Core.Bool.{true, not}
use mathlib.Core.List.{List}
use Prim.Native.Nat.{ℕ, ◌+◌, ◌-◌, ◌≤◌, ◌<◌}
use native.Mathlib.Omega.{arith}
use lib.ListN.{length, get_or, set, replicate}
use lib.Ieee.{Float, nan, binary64, add}
use borrow.Rule.Slice.PartMut.{put_mid}
use borrow.Author.Tests.{not-true}
use Rattle.num_float.proofs.Tests.{contrary}
use Rattle.list_laws.specs.Region.{part, Outside}
use Rattle.list_laws.proofs.Regions.{part_length, put_length, part_put, part_before, part_place}
use Rattle.list_laws.proofs.Outside.{outside_none, outside_then, outside_wide, outside_put, outside_part}
use Rattle.math.specs.Vector as vector
use Rattle.file_part.specs.Part.{Part}
use Rattle.solid_faces.specs.Faces.{face_number, polygon_area}
use Rattle.solid_volumes.specs.Volume.{Volumes}
use Rattle.solid_faces.specs.Kept.{KeptPlanes, KeptAreas, FaceAreas}
use Rattle.solid_faces.specs.Work.{AreasTo}
use Rattle.solid_faces.proofs.KeptLaws.{sums_none, sums_more}
use Rattle.scratch.specs.declared.regions.Regions.{Regions}
use Rattle.scratch.specs.Regions.{Laid}
use Rattle.scratch.specs.Standing.{Reals}
use Rattle.scratch.specs.Work.{TotalsPut, VolumesPut}

-- the area of polygon q, while those of the faces are put
pub area_at : (t : Part) (at : Regions) (q : ℕ) (old new : List Float) → Laid at → KeptAreas t at.polygons (part at.areas at.totals old) →
    Outside nan at.totals at.volumes old new → q < at.polygons → get_or new (at.areas + q) nan ≡ polygon_area t q
area_at t at q old new laid kept same l =
    same.below (at.areas + q) (omega (arith, l, laid)) ∙ sym (part_place at.areas at.totals old nan q (omega (arith, l, laid))) ∙ kept.each q l

-- ---- the areas of the faces
module _ (t : Part) (at : Regions) (laid : Laid at) (s x : List Float) (room : at.reals ≤ length s) (lx : length x ≡ at.volumes - at.totals) where
  abbrev pub put_there : List Float
  put_there = put_mid at.totals (at.volumes - at.totals) s x

  pub there_outside : Outside nan at.totals at.volumes s put_there
  there_outside = outside_put nan at.totals at.volumes s x (omega (arith, laid)) (omega (arith, room, laid)) lx

  there_is : part at.totals at.volumes put_there ≡ x
  there_is = part_put at.totals at.volumes s x (omega (arith, room, laid)) lx

  pub there_none : (n : ℕ) → x ≡ replicate n vector.zero → AreasTo t 0 (part at.totals at.volumes put_there)
  there_none n h = subst (AreasTo t 0) (sym there_is) (sums_none t x n h)

  pub there_more : (q f : ℕ) (area : Float) → f < 1024 → f ≡ face_number t q → area ≡ polygon_area t q → AreasTo t q (part at.totals at.volumes s) →
      x ≡ set (part at.totals at.volumes s) f (add binary64 (get_or (part at.totals at.volumes s) f nan) area) →
      AreasTo t (q + 1) (part at.totals at.volumes put_there)
  there_more q f area low e ea h is =
      subst (AreasTo t (q + 1)) (sym (there_is ∙ is))
      (sums_more t q f (part at.totals at.volumes s) area (omega (arith, low, laid, part_length at.totals at.volumes s (omega (arith, room, laid)))) e ea h)

-- ---- the volumes, where bodies are asked for: z is what their stage leaves
module _ (t : Part) (at : Regions) (laid : Laid at) (s : List Float) (room : at.reals ≤ length s) where
  pub volumes_none : not at.bodies ≡ true → VolumesPut t at s s
  volumes_none off = record { volumes = λ on. absurd (contrary on (not-true _ off)); kept = outside_none nan _ _ s }

  pub volumes_put : (z : List Float) → length z ≡ at.boxes - at.volumes → Volumes t z → VolumesPut t at s (put_mid at.volumes (at.boxes - at.volumes) s z)
  volumes_put z lz v =
      record {
        volumes = λ on. subst (Volumes t) (sym (part_put at.volumes at.boxes s z (omega (arith, room, laid)) lz)) v;
        kept = outside_put nan at.volumes at.boxes s z (omega (arith, laid)) (omega (arith, room, laid)) lz;
      }

-- ---- all four regions: planes x, areas y, the areas of the faces, and the volumes
module _ (t : Part) (at : Regions) (laid : Laid at) (s x y after last : List Float) (room : at.reals ≤ length s)
    (lx : length x ≡ at.areas - 0) (ly : length y ≡ at.totals - at.areas) where
  abbrev pub planes_put : List Float
  planes_put = put_mid 0 (at.areas - 0) s x

  abbrev pub areas_put : List Float
  areas_put = put_mid at.areas (at.totals - at.areas) planes_put y

  pub planes_length : length planes_put ≡ length s
  planes_length = put_length 0 at.areas s x (omega (arith, room, laid)) lx

  pub areas_length : length areas_put ≡ length s
  areas_length = put_length at.areas at.totals planes_put y (omega (arith, room, laid, planes_length)) ly ∙ planes_length

  -- the areas, before those of the faces are put
  pub areas_there : part at.areas at.totals areas_put ≡ y
  areas_there = part_put at.areas at.totals planes_put y (omega (arith, room, laid, planes_length)) ly

  module _ (sums : TotalsPut t at areas_put after) (put : VolumesPut t at after last) where
    inside : at.reals ≤ length after
    inside = omega (arith, room, areas_length, sums.kept.long)

    before : (b f : ℕ) → f ≤ at.volumes → part b f last ≡ part b f after
    before b f l = outside_part nan at.volumes at.boxes b f after last l (omega (arith, l, inside, laid)) put.kept

    summed : (b f : ℕ) → f ≤ at.totals → part b f after ≡ part b f areas_put
    summed b f l = outside_part nan at.totals at.volumes b f areas_put after l (omega (arith, l, room, areas_length, laid)) sums.kept

    planes_are : part 0 at.areas last ≡ x
    planes_are =
        before 0 at.areas (omega (arith, laid)) ∙ summed 0 at.areas (omega (arith, laid))
        ∙ part_before at.areas (at.totals - at.areas) 0 at.areas planes_put y (omega (arith, room, laid, planes_length)) (omega arith) (omega arith)
        ∙ part_put 0 at.areas s x (omega arith) lx

    areas_are : part at.areas at.totals last ≡ y
    areas_are = before at.areas at.totals (omega (arith, laid)) ∙ summed at.areas at.totals (omega arith) ∙ areas_there

    all_reals : KeptPlanes t at.polygons x → KeptAreas t at.polygons y → Reals t at last
    all_reals planes areas =
        record {
          planes = subst (KeptPlanes t at.polygons) (sym planes_are) planes;
          areas = subst (KeptAreas t at.polygons) (sym areas_are) areas;
          totals = subst (FaceAreas t) (sym (before at.totals at.volumes (omega arith))) sums.totals;
          volumes = put.volumes;
        }

    outside : Outside nan 0 at.boxes s last
    outside =
        outside_then nan _ _ s planes_put last (wide 0 at.areas s planes_put (omega (arith, laid)) (outside_put nan 0 at.areas s x (omega arith) (omega (arith, room, laid)) lx))
        (outside_then nan _ _ planes_put areas_put last
        (wide at.areas at.totals planes_put areas_put (omega (arith, laid)) (outside_put nan at.areas at.totals planes_put y (omega (arith, laid)) (omega (arith, room, laid, planes_length)) ly))
        (outside_then nan _ _ areas_put after last (wide at.totals at.volumes areas_put after (omega (arith, laid)) sums.kept)
        (wide at.volumes at.boxes after last (omega arith) put.kept)))
      where
        wide : (a e : ℕ) (l m : List Float) → e ≤ at.boxes → Outside nan a e l m → Outside nan 0 at.boxes l m
        wide a e l m high o = outside_wide nan a e 0 at.boxes l m (omega arith) high o

    pub reals_put : (KeptPlanes t at.polygons x → KeptAreas t at.polygons y → Reals t at last) × Outside nan 0 at.boxes s last
    reals_put = (all_reals, outside)
