-- The sums of the volumes, triangle by triangle and polygon by polygon.
use Prim.Native.Nat.{ℕ, suc, ◌+◌, ◌-◌, ◌*◌, ◌≤◌, ◌<◌}
use native.Mathlib.Omega.{arith}
use native.Mathlib.Numerals.{add-one}
use native.Mathlib.Decide.{ℕ_discrete}
use borrow.Author.Tests.{eq-eqb, ne_eqb}
use mathlib.Core.Path.{◌≡◌, refl, sym, ap, subst, ◌∙◌}
use mathlib.Core.Bool.{Bool, cond}
use mathlib.Core.List.{List}
use lib.Dec.{eqb}
use lib.Ieee.{Float, nan, binary64, add}
use lib.ListN.{length, get_or, set}
use lib.Seq.{get_or-set_same, get_or-set_other}
use Rattle.num_float.specs.Sign.{plus_zero}
use Rattle.math.specs.declared.Vec3.{Vec3}
use Rattle.file_field.specs.Field.{vec_at_of}
use Rattle.file_part.specs.Layout.{vertex_count_of, polygon_count_of, entry_at}
use Rattle.file_part.specs.Part.{Part, polygon_at, first_at, count_at_of, part_of}
use Rattle.file_ok.specs.Work.{Readable}
use Rattle.file_ok.proofs.ReadableLaws.{readable_length, readable_run}
use Rattle.solid_bodies.specs.Body.{body_of, Labels}
use Rattle.solid_bodies.proofs.BodyLaws.{label_known}
use Rattle.solid_volumes.specs.Volume.{pyramid, fan, fan_from, volume_to, volume_of, Volumes}

-- ---- the triangles of a fan
pub fan_none : (vertex : ℕ → Vec3) (first : ℕ) (a : Float) → a ≡ fan vertex first a 0
unfolding fan
fan_none vertex first a = refl

fan_suc : (vertex : ℕ → Vec3) (first : ℕ) (a : Float) (k : ℕ) →
    fan vertex first a (suc k) ≡ add binary64 (fan vertex first a k) (pyramid (vertex first) (vertex (first + k + 1)) (vertex (first + k + 2)))
unfolding fan
fan_suc vertex first a k = refl

-- one triangle more, by what was read and computed
pub fan_more : (vertex : ℕ → Vec3) (first : ℕ) (a : Float) (k : ℕ) (sum r : Float) (x y z : Vec3) → sum ≡ fan vertex first a k →
    x ≡ vertex first → y ≡ vertex (first + k + 1) → z ≡ vertex (first + k + 2) → r ≡ pyramid x y z → add binary64 sum r ≡ fan vertex first a (k + 1)
fan_more vertex first a k sum r x y z s ex ey ez er = rw (s, er, ex, ey, ez, add-one k, fan_suc vertex first a k)

-- ---- the polygons of a body
pub volume_none : (t : Part) (b : ℕ) → plus_zero ≡ volume_to t b 0
unfolding volume_to
volume_none t b = refl

volume_suc : (t : Part) (b p : ℕ) →
    volume_to t b (p + 1) ≡ fan_from t p (volume_to t b p) (cond (eqb (body_of t p) b) ((t.polygon p).count - 2) 0)
unfolding volume_to
volume_suc t b p = ap (volume_to t b) (add-one p)

-- polygon p is of body b
volume_in : (t : Part) (b p : ℕ) → body_of t p ≡ b →
    volume_to t b (p + 1) ≡ fan_from t p (volume_to t b p) ((t.polygon p).count - 2)
volume_in t b p e =
    volume_suc t b p
    ∙ ap (λ (q : Bool). fan_from t p (volume_to t b p) (cond q ((t.polygon p).count - 2) 0)) (eq-eqb (body_of t p) b e)

-- it is of another
volume_out : (t : Part) (b p : ℕ) → (body_of t p ≡ b → ⊥) → volume_to t b (p + 1) ≡ volume_to t b p
unfolding fan_from
volume_out t b p e =
    volume_suc t b p
    ∙ ap (λ (q : Bool). fan_from t p (volume_to t b p) (cond q ((t.polygon p).count - 2) 0)) (ne_eqb (body_of t p) b e)
    ∙ sym (fan_none t.vertex (t.polygon p).first (volume_to t b p))

-- the label of a polygon: it stands in the list, is the number of its body, and is a polygon
pub record LabelOf (s l : List ℕ) (p k : ℕ) : Type 0 where
  pub inside : p < length l
  pub own : k ≡ body_of (part_of s) p
  pub known : k < polygon_count_of s

pub label_of : (s l : List ℕ) (p k : ℕ) → Labels (part_of s) l → p < polygon_count_of s → k ≡ get_or l p 0 → LabelOf s l p k
unfolding part_of
label_of s l p k r h e = record { inside = omega (arith, r.long); own = e ∙ r.each p h; known = omega (arith, label_known (part_of s) l r p h) }

-- the entry of a polygon and the vertices of its run are in the file
pub fan_room : (s : List ℕ) (v p at : ℕ) → Readable s → v ≡ vertex_count_of s → p < polygon_count_of s → at ≡ entry_at v p →
    (at + 80 ≤ length s) × ((3 ≤ count_at_of s at) × (24 * (first_at s at + count_at_of s at) ≤ length s))
fan_room s v p at h e l place =
    let r = readable_run s h p l in
    let same : at ≡ entry_at (vertex_count_of s) p = place ∙ ap (λ (n : ℕ). entry_at n p) e in
    let first = ap (first_at s) same in
    let count = ap (count_at_of s) same in (
      omega (arith, readable_length s h, l, same),
      (omega (arith, r.least, count), omega (arith, readable_length s h, r.first, r.inside, first, count)),
    )

-- the fan of a polygon, as the code reads it
pub fan_read : (s : List ℕ) (v p at : ℕ) (a r : Float) → v ≡ vertex_count_of s → at ≡ entry_at v p →
    r ≡ fan (λ i. vec_at_of s (24 * i)) (first_at s at) a (count_at_of s at - 2) → r ≡ fan_from (part_of s) p a (((part_of s).polygon p).count - 2)
unfolding fan_from part_of polygon_at
fan_read s v p at a r e place is =
    is ∙ ap (λ (k : ℕ). fan (λ i. vec_at_of s (24 * i)) (first_at s k) a (count_at_of s k - 2)) (place ∙ ap (λ (n : ℕ). entry_at n p) e)

-- one polygon more: the sum of its body grows, and no other
module _ (t : Part) (volume : List Float) (n p k : ℕ) (r : Float) (long : length volume ≡ n) (own : k ≡ body_of t p) (kn : k < n)
    (is : r ≡ fan_from t p (get_or volume k nan) ((t.polygon p).count - 2))
    (all : (b : ℕ) → b < n → get_or volume b nan ≡ volume_to t b p) where
  pub volume_more : (b : ℕ) → b < n → get_or (set volume k r) b nan ≡ volume_to t b (p + 1)
  volume_more b h = go (ℕ_discrete b k)
    where
      go : Dec (b ≡ k) → get_or (set volume k r) b nan ≡ volume_to t b (p + 1)
      go (yes e) =
          subst (λ (j : ℕ). get_or (set volume k r) j nan ≡ volume_to t j (p + 1)) (sym e)
          (get_or-set_same volume k r nan (omega (arith, long, kn))
          ∙ is
          ∙ ap (λ (a : Float). fan_from t p a ((t.polygon p).count - 2)) (all k kn)
          ∙ sym (volume_in t k p (sym own)))
      go (no e) = get_or-set_other volume k b r nan e ∙ all b h ∙ sym (volume_out t b p (λ q. e (sym q ∙ sym own)))

pub volumes_are : (s : List ℕ) (volume : List Float) (p : ℕ) → p ≡ polygon_count_of s → length volume ≡ polygon_count_of s →
    ((b : ℕ) → b < polygon_count_of s → get_or volume b nan ≡ volume_to (part_of s) b p) → Volumes (part_of s) volume
unfolding part_of volume_of
volumes_are s volume p e long all = record { each = λ b h. all b h ∙ ap (volume_to (part_of s) b) e; long = long }
