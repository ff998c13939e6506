-- The corners of an accepted part: their keys and owners as they are put, and that corners of one key are where polygons touch.
use Prim.Native.Nat.{ℕ, ◌+◌, ◌-◌, ◌*◌, ◌≤◌, ◌<◌}
use native.Mathlib.Omega.{arith}
use native.Mathlib.Decide.{dec_lt}
use borrow.Author.Count.{below_more}
use borrow.Author.Tests.{eq-eqb}
use borrow.Rule.Slice.PartMut.{put_mid, mid_len, same_len_mid}
use mathlib.Core.Path.{◌≡◌, sym, ap, subst, ◌∙◌}
use mathlib.Core.Bool.{true}
use mathlib.Core.List.{List}
use lib.Ieee.{Float}
use lib.ListN.{length, get_or, set, take, drop, replicate, length-set, length-replicate}
use lib.Seq.{get_or-set_same, get_or-set_other}
use Rattle.num_float.specs.Within.{Within}
use Rattle.list_laws.proofs.Below.{sum_within}
use Rattle.list_laws.proofs.Fill.{filled_at}
use Rattle.math.specs.declared.Vec3.{Vec3}
use Rattle.math.specs.Size.{VecWithin}
use Rattle.file_field.specs.Field.{vec_at_of}
use Rattle.file_part.specs.Layout.{vertex_count_of, polygon_count_of, entry_at}
use Rattle.file_part.specs.Part.{Part, polygon_at, first_at, count_at_of, part_of}
use Rattle.file_ok.specs.Rules.{run_start}
use Rattle.file_ok.specs.Work.{Readable}
use Rattle.file_ok.proofs.ReadableLaws.{readable_counts, readable_vertex, readable_run, readable_whole}
use Rattle.file_ok.proofs.PolygonLaws.{start_more}
use Rattle.solid_segments.specs.Key.{body_scale, key_part, same_key_of}
use Rattle.solid_segments.specs.Work.{from_zero_of, key_cell}
use Rattle.solid_segments.proofs.KeyLaws.{int_same, key_parts, key_whole, body_key, from_zero_same}
use Rattle.solid_bodies.specs.Body.{CornerOf, Touch, Lowest, body_cells, Bodies}
use Rattle.solid_bodies.specs.Work.Forest.{Carries}
use Rattle.list_laws.specs.Region.{part}
use Rattle.solid_bodies.specs.Work.{KeyNumbers, Meet, key_at, corners_of, Memory, Labelled, number_of, KeyAt, KeyPut, Owned, Keyed, Cornered}
use Rattle.solid_bodies.proofs.ChainLaws.{one, lowest_carried}
use Rattle.solid_bodies.proofs.BodyLaws.{lowest_body}
use Rattle.list_laws.proofs.Regions.{part_put, part_length, put_before, put_inside}

-- ---- keys
-- the vertex that was read
pub read_within : (s : List ℕ) (n v : ℕ) (at : Vec3) → Readable s → n ≡ vertex_count_of s → v < n → at ≡ vec_at_of s (24 * v) → VecWithin at 10000
read_within s n v at h e l is = subst (λ (p : Vec3). VecWithin p 10000) (sym is) (readable_vertex s h v (omega (arith, e, l)))

-- three numbers are put
module _ (s : List ℕ) (n v : ℕ) (c : List ℕ) (at : Vec3) (x y z : ℕ) (is : at ≡ vec_at_of s (24 * v)) (long : length c ≡ 4 * n) (l : v < n)
    (nx : x ≡ number_of at.x) (ny : y ≡ number_of at.y) (nz : z ≡ number_of at.z) where
  abbrev k : ℕ
  k = n + 3 * v

  abbrev c₁ : List ℕ
  c₁ = set c k x

  abbrev c₂ : List ℕ
  c₂ = set c₁ (k + 1) y

  abbrev c₃ : List ℕ
  c₃ = set c₂ (k + 2) z

  long₁ : length c₁ ≡ 4 * n
  long₁ = length-set c k x ∙ long

  long₂ : length c₂ ≡ 4 * n
  long₂ = length-set c₁ (k + 1) y ∙ long₁

  at_x : get_or c₃ k 0 ≡ x
  at_x = get_or-set_other c₂ (k + 2) k z 0 (λ e. omega arith) ∙ get_or-set_other c₁ (k + 1) k y 0 (λ e. omega arith) ∙ get_or-set_same c k x 0 (omega arith)

  at_y : get_or c₃ (k + 1) 0 ≡ y
  at_y = get_or-set_other c₂ (k + 2) (k + 1) z 0 (λ e. omega arith) ∙ get_or-set_same c₁ (k + 1) y 0 (omega (arith, long₁))

  at_z : get_or c₃ (k + 2) 0 ≡ z
  at_z = get_or-set_same c₂ (k + 2) z 0 (omega (arith, long₂))

  key_read : KeyAt (part_of s) n c₃ v
  unfolding part_of
  key_read = record {
    x = at_x ∙ nx ∙ ap (λ (p : Vec3). number_of p.x) is;
    y = at_y ∙ ny ∙ ap (λ (p : Vec3). number_of p.y) is;
    z = at_z ∙ nz ∙ ap (λ (p : Vec3). number_of p.z) is;
  }

  pub key_put : KeyPut (part_of s) n v c c₃
  key_put = record {
    key = key_read;
    before = λ i h.
        get_or-set_other c₂ (k + 2) i z 0 (λ e. omega arith)
        ∙ get_or-set_other c₁ (k + 1) i y 0 (λ e. omega arith)
        ∙ get_or-set_other c k i x 0 (λ e. omega arith);
    long = length-set c₂ (k + 2) z ∙ length-set c₁ (k + 1) y ∙ length-set c k x;
  }

-- one vertex more
module _ (t : Part) (n v : ℕ) (c₀ c c' : List ℕ) (d : Keyed t n v c₀ c) (put : KeyPut t n v c c') where
  kept : (u : ℕ) → u < v → KeyAt t n c' u
  kept u h =
      let a = d.keys u h in
      record {
        x = put.before (n + 3 * u) (omega arith) ∙ a.x;
        y = put.before (n + 3 * u + 1) (omega arith) ∙ a.y;
        z = put.before (n + 3 * u + 2) (omega arith) ∙ a.z;
      }

  pub keyed_more : Keyed t n (v + 1) c₀ c'
  keyed_more = record {
    keys = below_more (KeyAt t n c') v kept put.key;
    owners = λ u h. put.before u (omega arith) ∙ d.owners u h;
    long = put.long ∙ d.long;
  }

-- ---- owners
-- the run of polygon p is put, where those before it stand
module _ (s : List ℕ) (n p at first count : ℕ) (c : List ℕ) (h : Readable s) (vs : n ≡ vertex_count_of s) (ps : p < polygon_count_of s) (e : at ≡ entry_at n p)
    (is : first ≡ first_at s at) (many : count ≡ count_at_of s at) (long : length c ≡ 4 * n) where
  at_is : at ≡ entry_at (vertex_count_of s) p
  at_is = e ∙ ap (λ (k : ℕ). entry_at k p) vs

  first_is : first ≡ first_at s (entry_at (vertex_count_of s) p)
  first_is = is ∙ ap (first_at s) at_is

  count_is : count ≡ count_at_of s (entry_at (vertex_count_of s) p)
  count_is = many ∙ ap (count_at_of s) at_is

  pub start_is : first ≡ run_start s (vertex_count_of s) p
  start_is = first_is ∙ (readable_run s h p ps).first

  pub run_end : first + count ≤ n
  run_end = omega (arith, (readable_run s h p ps).inside, start_is, count_is, vs)

  pub next_start : first + count ≡ run_start s (vertex_count_of s) (p + 1)
  next_start = start_more s (vertex_count_of s) p first count start_is count_is

  -- the part of the slice that the run fills
  abbrev run : List ℕ
  run = take (first + count - first) (drop first c)

  run_long : length run ≡ count
  run_long = mid_len first (first + count) c (omega (arith, run_end, long)) ∙ omega arith

  module _ (y : List ℕ) (full : y ≡ replicate (length run) p) where
    y_long : length y ≡ count
    y_long = ap length full ∙ length-replicate (length run) p ∙ run_long

    abbrev c' : List ℕ
    c' = put_mid first (first + count - first) c y

    in_c : first ≤ length c
    in_c = omega (arith, run_end, long)

    new : (v : ℕ) → first ≤ v → v < first + count → get_or c' v 0 ≡ p
    new v g l =
        put_inside first (first + count - first) c y 0 in_c v g (omega (arith, y_long))
        ∙ filled_at y (length run) p 0 full (v - first) (omega (arith, run_long))

    corner : (v : ℕ) → first ≤ v → v < first + count → CornerOf (part_of s) p v
    unfolding part_of polygon_at
    corner v g l = record { known = ps; from = omega (arith, first_is, g); to = omega (arith, first_is, count_is, l) }

    pub owned_more : Owned (part_of s) (run_start s (vertex_count_of s) p) c → Owned (part_of s) (run_start s (vertex_count_of s) (p + 1)) c'
    owned_more d v l = go (dec_lt v first)
      where
        go : Dec (v < first) → CornerOf (part_of s) (get_or c' v 0) v
        go (yes b) =
            subst (λ (q : ℕ). CornerOf (part_of s) q v) (sym (put_before first (first + count - first) c y 0 in_c v b)) (d v (omega (arith, start_is, b)))
        go (no b) =
            let g : first ≤ v = omega (arith, b) in
            let r : v < first + count = omega (arith, next_start, l) in
            subst (λ (q : ℕ). CornerOf (part_of s) q v) (sym (new v g r)) (corner v g r)

pub owned_none : (s c : List ℕ) (v : ℕ) → 0 ≡ run_start s v 0 → Owned (part_of s) (run_start s v 0) c
owned_none s c v e i h = absurd (omega (arith, e, h))

pub owned_all : (s c : List ℕ) (n p : ℕ) → Readable s → n ≡ vertex_count_of s → p ≡ polygon_count_of s → Owned (part_of s) (run_start s (vertex_count_of s) p) c →
    Owned (part_of s) n c
owned_all s c n p h vs ps d v l =
    d v (omega (arith, readable_whole s h, ap (run_start s (vertex_count_of s)) ps, vs, l))

-- both
pub cornered : (t : Part) (n : ℕ) (c c' : List ℕ) → Owned t n c → Keyed t n n c c' → Cornered t n c'
cornered t n c c' o k = record { owners = λ v h. subst (λ (q : ℕ). CornerOf t q v) (sym (k.owners v h)) (o v h); keys = k.keys }

-- ---- the runs follow on, so that a vertex belongs to one polygon
run_before : (s : List ℕ) → Readable s → (p q : ℕ) → q < polygon_count_of s → p < q →
    ((part_of s).polygon p).first + ((part_of s).polygon p).count ≤ ((part_of s).polygon q).first
unfolding part_of polygon_at run_start
run_before s h p q l pq =
    omega (arith, sum_within q (λ k. count_at_of s (entry_at (vertex_count_of s) k)) p pq, (readable_run s h p (omega (arith, l, pq))).first, (readable_run s h q l).first)

polygon_known : (s : List ℕ) (p v : ℕ) → CornerOf (part_of s) p v → p < polygon_count_of s
unfolding part_of
polygon_known s p v a = a.known

one_owner : (s : List ℕ) → Readable s → (p q v : ℕ) → CornerOf (part_of s) p v → CornerOf (part_of s) q v → p ≡ q
one_owner s h p q v a b = go (dec_lt p q) (dec_lt q p)
  where
    go : Dec (p < q) → Dec (q < p) → p ≡ q
    go (yes l) d = absurd (omega (arith, run_before s h p q (polygon_known s q v b) l, a.to, b.from))
    go (no l) (yes g) = absurd (omega (arith, run_before s h q p (polygon_known s p v a) g, b.to, a.from))
    go (no l) (no g) = omega (arith, l, g)

corner_below : (s : List ℕ) → Readable s → (p v : ℕ) → CornerOf (part_of s) p v → v < vertex_count_of s
unfolding part_of polygon_at
corner_below s h p v a =
    let r = readable_run s h p a.known in
    omega (arith, r.first, r.inside, a.to)

-- ---- corners of one key are where polygons touch
-- a coordinate's number says its key, and the key its number
number_key : (x y : Float) → Within x 10000 → Within y 10000 → number_of x ≡ number_of y → key_part body_scale x ≡ key_part body_scale y
unfolding key_cell
number_key x y w v e =
    int_same _ _ (sym (from_zero_same 1000000000 (key_part body_scale x) (key_part body_scale y) (body_key x w) (body_key y v)) ∙ eq-eqb _ _ e)

key_number : (x y : Float) → key_part body_scale x ≡ key_part body_scale y → number_of x ≡ number_of y
unfolding key_cell
key_number x y e = ap (from_zero_of 1000000000) e

module _ (s : List ℕ) (n : ℕ) (c : List ℕ) (h : Readable s) (vs : n ≡ vertex_count_of s) (d : Cornered (part_of s) n c) where
  abbrev t : Part
  t = part_of s

  below : (i a : ℕ) → CornerOf t i a → a < n
  below i a k = omega (arith, corner_below s h i a k, vs)

  near : (a : ℕ) → a < n → VecWithin (t.vertex a) 10000
  unfolding part_of
  near a l = readable_vertex s h a (omega (arith, vs))

  same_key : (a b : ℕ) → a < n → b < n → key_at n c a ≡ key_at n c b → same_key_of body_scale (t.vertex a) (t.vertex b) ≡ true
  same_key a b ha hb e =
      let p = d.keys a ha in
      let q = d.keys b hb in
      key_whole body_scale (t.vertex a) (t.vertex b) (record {
        x_part = number_key _ _ (near a ha).x_within (near b hb).x_within (sym p.x ∙ ap (λ (k : KeyNumbers). k.x) e ∙ q.x);
        y_part = number_key _ _ (near a ha).y_within (near b hb).y_within (sym p.y ∙ ap (λ (k : KeyNumbers). k.y) e ∙ q.y);
        z_part = number_key _ _ (near a ha).z_within (near b hb).z_within (sym p.z ∙ ap (λ (k : KeyNumbers). k.z) e ∙ q.z);
      })

  same_numbers : (a b : ℕ) → a < n → b < n → same_key_of body_scale (t.vertex a) (t.vertex b) ≡ true → key_at n c a ≡ key_at n c b
  same_numbers a b ha hb e =
      let p = d.keys a ha in
      let q = d.keys b hb in
      let k = key_parts body_scale (t.vertex a) (t.vertex b) e in
      let x = p.x ∙ key_number (t.vertex a).x (t.vertex b).x k.x_part ∙ sym q.x in
      let y = p.y ∙ key_number (t.vertex a).y (t.vertex b).y k.y_part ∙ sym q.y in
      let z = p.z ∙ key_number (t.vertex a).z (t.vertex b).z k.z_part ∙ sym q.z in
      λ i. record { x = x i; y = y i; z = z i }

  pub meet_touch : Carries (Meet (corners_of n c)) (Touch t)
  meet_touch i j m =
      one (record {
        a = m.a;
        b = m.b;
        a_of = subst (λ (q : ℕ). CornerOf t q m.a) m.a_own (d.owners m.a m.a_in);
        b_of = subst (λ (q : ℕ). CornerOf t q m.b) m.b_own (d.owners m.b m.b_in);
        same = same_key m.a m.b m.a_in m.b_in m.same;
      })

  pub touch_meet : Carries (Touch t) (Meet (corners_of n c))
  touch_meet i j m =
      let a_in = below i m.a m.a_of in
      let b_in = below j m.b m.b_of in
      one (record {
        a = m.a;
        b = m.b;
        a_in = a_in;
        b_in = b_in;
        a_own = one_owner s h (get_or c m.a 0) i m.a (d.owners m.a a_in) m.a_of;
        b_own = one_owner s h (get_or c m.b 0) j m.b (d.owners m.b b_in) m.b_of;
        same = same_numbers m.a m.b a_in b_in m.same;
      })

-- ---- the memory with the corners put, and the labels that come of it
module _ (s : List ℕ) (n p : ℕ) (mem c : List ℕ) (h : Readable s) (vs : n ≡ vertex_count_of s) (ps : p ≡ polygon_count_of s)
    (long : length mem ≡ body_cells (polygon_count_of s) (vertex_count_of s)) (c-long : length c ≡ length (part p (p + 4 * n) mem)) (d : Cornered (part_of s) n c) where
  abbrev put : List ℕ
  put = put_mid p (p + 4 * n - p) mem c

  put_long : length put ≡ length mem
  put_long = same_len_mid p (p + 4 * n - p) mem c c-long

  c_room : length c ≡ p + 4 * n - p
  c_room = c-long ∙ part_length p (p + 4 * n) mem (omega (arith, long, vs, ps))

  corners_are : part p (p + 4 * n) put ≡ c
  corners_are = part_put p (p + 4 * n) mem c (omega (arith, long, ps)) c_room

  pub memory_put : Memory p n put
  memory_put = record {
    few = omega (arith, (readable_counts s h).0, vs);
    low = omega (arith, (readable_counts s h).1, ps);
    room = omega (arith, put_long, long, vs, ps);
    owned = λ v l. subst (λ (k : List ℕ). get_or k v 0 < p) (sym corners_are) (omega (arith, polygon_known s (get_or c v 0) v (d.owners v l), ps));
  }

  pub bodies_are : (mem' : List ℕ) → Labelled p n put mem' → Bodies (part_of s) mem'
  unfolding part_of
  bodies_are mem' r =
      let same : length mem' ≡ body_cells (polygon_count_of s) (vertex_count_of s) = r.long ∙ put_long ∙ long in
      let low : (i : ℕ) → i < polygon_count_of s → Lowest (Touch (part_of s)) i (get_or mem' i 0) =
      λ i l. lowest_carried (meet_touch s n c h vs d) (touch_meet s n c h vs d)
      (subst (λ (k : List ℕ). Lowest (Meet (corners_of n k)) i (get_or mem' i 0)) corners_are (r.labels i (omega (arith, ps, l)))) in
      record { labels = record { each = λ i l. lowest_body (part_of s) i (get_or mem' i 0) l (low i l); long = omega (arith, same) }; long = same }
