-- The polygons of a face after they are gathered and sorted.
use mathlib.Core.Path.{◌≡◌, sym, ap, ◌∙◌}
use mathlib.Core.Bool.{false}
use mathlib.Core.List.{List}
use Prim.Native.Nat.{ℕ, ◌+◌, ◌*◌, ◌-◌, ◌≤◌, ◌<◌}
use native.Mathlib.Omega.{arith}
use lib.ListN.{length, get_or, take}
use lib.Seq.{ext_get_or, get_or-take, length-take-le}
use lib.Ieee.{Float, is_nan}
use borrow.Rule.Slice.PartMut.{put_mid}
use Rattle.list_laws.specs.Region.{part}
use Rattle.list_laws.proofs.Regions.{part_length, put_length, part_place, put_inside}
use Rattle.list_laws.proofs.Outside.{outside_then, outside_wide, outside_put}
use Rattle.file_part.specs.Part.{Part}
use Rattle.solid_faces.specs.Faces.{face_number}
use Rattle.list_sort.specs.Sorted.{key_of, SortedBy, in_order_of}
use Rattle.list_sort.specs.Work.{Numbered, NoNan}
use Rattle.list_sort.proofs.InOrder.{sorted_is}
use Rattle.list_sort.proofs.Falling.{neg_nan}
use Rattle.wall_starts.specs.Starts.{face_polygons, falling_to, ordered_polygons}
use Rattle.wall_starts.specs.Work.{Along, KeptFalling, AreaNumbers, Room, Gathered, Ordered}
use Rattle.wall_starts.proofs.OrderLaws.{face_each, falling_at, in_order_keys}

module _ (keys : List Float) (old mid : List ℕ) (chain order p first n : ℕ) (room : Room old chain order p) (inside : p ≤ length keys)
    (g : Gathered old mid chain order p first n) where
  -- the part that is lent
  abbrev lent : List ℕ
  lent = part order (order + 2 * n) mid

  end_inside : order + 2 * n ≤ length mid
  end_inside = omega (arith, room.inside, g.most, g.kept.long)

  pub lent_length : length lent ≡ 2 * n
  lent_length = part_length order (order + 2 * n) mid end_inside ∙ (omega arith)

  lent_below : (i : ℕ) → i < n → get_or lent i 0 < p
  lent_below i l = omega (arith, part_place order (order + 2 * n) mid 0 i (omega (arith, l)), g.below i l)

  pub lent_numbered : Numbered keys lent 0 n
  lent_numbered = record { has = λ i a l. omega (arith, lent_below i l, inside) }

  -- the polygons stand first in it
  front_length : length (part order (order + n) mid) ≡ n
  front_length = part_length order (order + n) mid (omega (arith, end_inside)) ∙ (omega arith)

  take_lent : take n lent ≡ part order (order + n) mid
  take_lent =
      let long : length (take n lent) ≡ n = length-take-le n lent (omega (arith, lent_length)) in
      ext_get_or 0 (take n lent) (part order (order + n) mid) (long ∙ sym front_length)
      (λ i h.
      let l : i < n = omega (arith, h, long) in
      get_or-take n lent i 0 l ∙ part_place order (order + 2 * n) mid 0 i (omega (arith, l)) ∙ sym (part_place order (order + n) mid 0 i (omega (arith, l))))

  -- the list of a part that the slice holds
  module _ (t : Part) (along : Along t p old chain first) where
    abbrev f : ℕ
    f = face_number t first

    e : p ≡ t.polygons
    e = along.polygons

    count_is : n ≡ length (face_polygons t f)
    count_is = sym front_length ∙ ap length (g.is t along)

    module _ (falling : KeptFalling t p keys) (areas : AreaNumbers t) where
      plain : NoNan keys lent n
      plain = record { is = go }
        where
          go : (i : ℕ) → i < n → is_nan (key_of keys (get_or lent i 0)) ≡ false
          go i l =
              let low = lent_below i l in
              ap is_nan (falling.each (get_or lent i 0) low) ∙ neg_nan _ ∙ areas.each (get_or lent i 0) (omega (arith, low, e))

      order_is : in_order_of keys (face_polygons t f) ≡ ordered_polygons t f
      unfolding ordered_polygons
      order_is =
          in_order_keys p keys (falling_to t t.polygons)
          (λ q l. falling.each q l ∙ sym (falling_at t t.polygons q (omega (arith, l, e))))
          (face_polygons t f)
          (λ i l. omega (arith, e, (face_each t f i l).below))

      sorted_list : (y : List ℕ) → length y ≡ length lent → SortedBy keys n lent y → take n y ≡ ordered_polygons t f
      sorted_list y long sorted =
          sorted_is keys n lent y sorted plain (omega (arith, lent_length)) (omega (arith, lent_length, long))
          ∙ ap (in_order_of keys) (take_lent ∙ g.is t along) ∙ order_is

  -- what comes back
  module _ (y : List ℕ) (long : length y ≡ length lent) (sorted : SortedBy keys n lent y) where
    abbrev new : List ℕ
    new = put_mid order (order + 2 * n - order) mid y

    y_long : length y ≡ order + 2 * n - order
    y_long = omega (arith, long, lent_length)

    pub new_long : length new ≡ length mid
    new_long = put_length order (order + 2 * n) mid y end_inside y_long

    front : part order (order + n) new ≡ take n y
    front =
        let here : length (part order (order + n) new) ≡ n
        = part_length order (order + n) new (omega (arith, new_long, end_inside)) ∙ (omega arith) in
        ext_get_or 0 (part order (order + n) new) (take n y) (here ∙ sym (length-take-le n y (omega (arith, long, lent_length))))
        (λ i h.
        let l : i < n = omega (arith, h, here) in
        let place : order + i - order ≡ i = omega arith in
        part_place order (order + n) new 0 i (omega (arith, l))
        ∙ put_inside order (order + 2 * n - order) mid y 0 (omega (arith, end_inside)) (order + i) (omega arith) (omega (arith, l, long, lent_length))
        ∙ ap (λ (k : ℕ). get_or y k 0) place ∙ sym (get_or-take n y i 0 l))

    pub ordered_all : Ordered keys old new chain order p first n
    ordered_all =
        record {
          most = g.most;
          count = count_is;
          is = λ t along falling areas. front ∙ sorted_list t along falling areas y long sorted;
          kept =
              outside_then 0 _ _ old mid new (outside_wide 0 _ _ order (order + 2 * p) old mid (omega arith) (omega (arith, g.most)) g.kept)
              (outside_wide 0 _ _ order (order + 2 * p) mid new (omega arith) (omega (arith, g.most)) (outside_put 0 order (order + 2 * n) mid y (omega arith) end_inside y_long));
        }
