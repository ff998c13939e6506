-- Trying polygons in any order, the lower number first on equal times, keeps the nearest of those tried.
use mathlib.Core.Path.{◌≡◌, refl, sym}
use mathlib.Core.Logic.{◌⊎◌, inl, inr, ⊎_elim}
use mathlib.Core.Bool.{Bool, true, false, ◌&&◌, cond}
use Prim.Native.Nat.{ℕ, suc, ◌+◌, ◌<◌, ◌≤◌}
use native.Mathlib.Numerals.{add-one}
use native.Mathlib.Omega.{arith}
use lib.Dec.{ltb}
use borrow.Author.Tests.{ltb-true, ltb-false}
use lib.Ieee.{Float, lt, eq, is_nan}
use Rattle.num_float.proofs.Tests.{refuted, and_left, and_right, or_false_left, or_false_right, lt_or_ge}
use Rattle.num_float.proofs.Line.{three, eq→≡, ≡→eq}
use Rattle.num_float.proofs.Order.{lt_trans, eq_lt_trans, lt_eq_trans, lt_irrefl, eq_numbers}
use Rattle.num_order.proofs.Signed.{by_lt, or_cases, clash}
use Rattle.wall_ray.specs.declared.strike.Hit.{Hit}
use Rattle.std.specs.Prelude.{Option, Some, None}
use Rattle.wall_ray.specs.Nearest.{strike_at, best, Nearest}
use Rattle.wall_ray.proofs.NearestLaws.{best_is_nearest, nearest_fixes}
use Rattle.wall_ray.specs.Work.{comes, tried}
use Rattle.wall_tree.specs.Work.{After, Best}

last : (q n : ℕ) → q < suc n → (q ≡ n) ⊎ (q < n)
last q n h = ⊎_elim (λ l. inr l) (λ l. inl (omega (arith, h, l))) (lt_or_ge q n)

eq_trans : (x y z : Float) → eq x y ≡ true → eq y z ≡ true → eq x z ≡ true
eq_trans x y z p q =
    let n = eq_numbers x y p in
    let w = three x y z n.0 n.1 (eq_numbers y z q).1 in
    ≡→eq w.xz (omega (arith, eq→≡ w.xy p, eq→≡ w.yz q))

stays : (h : Hit) (p : ℕ) (t : Float) → comes (Some h) p t ≡ false → After (Some h) p t
unfolding comes
stays h p t x = (
  or_false_left (lt t h.t) (eq t h.t && ltb p h.polygon) x,
  λ e. ltb-false p h.polygon (second (eq t h.t) (ltb p h.polygon) e (or_false_right (lt t h.t) (eq t h.t && ltb p h.polygon) x)),
)
  where
    second : (a b : Bool) → a ≡ true → a && b ≡ false → b ≡ false
    second true b g k = k
    second false b g k = cc

-- what was after h is after p at t, which comes first
pushed : (h : Hit) (p r : ℕ) (t u : Float) → comes (Some h) p t ≡ true → After (Some h) r u → After (Some (strike_at p t)) r u
unfolding comes
pushed h p r t u x a =
    or_cases (lt t h.t) (eq t h.t && ltb p h.polygon) x
    (λ l. (
      refuted (lt u t) (λ k. clash (lt u h.t) (lt_trans u t h.t k l) a.0),
      λ e. clash (lt u h.t) (eq_lt_trans u t h.t e l) a.0,
    ))
    (λ l.
    let m = and_left (eq t h.t) (ltb p h.polygon) l in
    let z = ltb-true p h.polygon (and_right (eq t h.t) (ltb p h.polygon) l) in (
      refuted (lt u t) (λ k. clash (lt u h.t) (lt_eq_trans u t h.t k m) a.0),
      λ e. omega (arith, a.1 (eq_trans u t h.t e m), z),
    ))

self : (p : ℕ) (t : Float) → After (Some (strike_at p t)) p t
self p t = (lt_irrefl t, λ e. omega arith)

module _ (is : ℕ → Bool) (time : ℕ → Float) (ord : ℕ → ℕ) (n : ℕ) where
  pub best_none : Best is time ord n 0 None
  best_none = record { real = omega arith; all = λ x l. absurd {A = is (ord x) ≡ true → ⊥} (omega arith) }

  more : (c : ℕ) (h : Option Hit) → Best is time ord n c h → (is (ord c) ≡ true → After h (ord c) (time (ord c))) → Best is time ord n (suc c) h
  more c h b f =
      record {
        real = b.real;
        all = λ x l g. ⊎_elim (λ e. rw e (f (rw e at g))) (λ m. b.all x m g) (last x c l);
      }

  taken : (c : ℕ) → ord c < n → is (ord c) ≡ true →
      ((x : ℕ) → x < c → is (ord x) ≡ true → After (Some (strike_at (ord c) (time (ord c)))) (ord x) (time (ord x))) →
      Best is time ord n (suc c) (Some (strike_at (ord c) (time (ord c))))
  taken c l h f =
      record {
        real = (l, (h, refl));
        all = λ x k g. ⊎_elim (λ e. rw e (self (ord c) (time (ord c)))) (λ m. f x m g) (last x c k);
      }

  step : (c : ℕ) (h : Option Hit) (a b : Bool) → ord c < n → Best is time ord n c h → is (ord c) ≡ a → comes h (ord c) (time (ord c)) ≡ b
      → Best is time ord n (suc c) (cond (a && b) (Some (strike_at (ord c) (time (ord c)))) h)
  step c h false b l w x y = more c h w (λ g. clash (is (ord c)) g x)
  step c None true true l w x y = taken c l x (λ z m g. absurd {A = After (Some (strike_at (ord c) (time (ord c)))) (ord z) (time (ord z))} (w.all z m g))
  step c None true false l w x y = clash (comes None (ord c) (time (ord c))) (unfold comes in refl) y
  step c (Some h) true true l w x y = taken c l x (λ z m g. pushed h (ord c) (ord z) (time (ord c)) (time (ord z)) y (w.all z m g))
  step c (Some h) true false l w x y = more c (Some h) w (λ g. stays h (ord c) (time (ord c)) y)

  pub best_tried : (c : ℕ) (h : Option Hit) → ord c < n → Best is time ord n c h → Best is time ord n (c + 1) (tried is time h (ord c))
  unfolding tried
  best_tried c h l w = rw add-one (step c h (is (ord c)) (comes h (ord c) (time (ord c))) l w refl refl)

  -- places that hold nothing sooner
  pub best_past : (c d : ℕ) (h : Option Hit) → Best is time ord n c h → ((x : ℕ) → c ≤ x → x < d → is (ord x) ≡ true → After h (ord x) (time (ord x))) →
      Best is time ord n d h
  best_past c d h w f =
      record {
        real = w.real;
        all = λ x l g. by_lt x c (λ m. w.all x m g) (λ m. f x m l g);
      }

  -- every number has its place
  module _ (onto : (p : ℕ) → p < n → (x : ℕ) × ((x < n) × (ord x ≡ p))) where
    after : (h : Option Hit) → Best is time ord n n h → (q : ℕ) → q < n → is q ≡ true → After h q (time q)
    after h w q l g =
        let z = onto q l in
        rw z.1.1 at (w.all z.0 z.1.0 (rw (sym z.1.1) at g))

    nearest : (h : Option Hit) → Best is time ord n n h → Nearest is time n h
    unfolding Nearest
    nearest None w = λ q l. refuted (is q) (λ g. after None w q l g)
    nearest (Some h) w =
        record {
          below = w.real.0;
          passes = w.real.1.0;
          at = w.real.1.1;
          none_nearer = λ q l g. (after (Some h) w q l g).0;
          none_lower = λ q l g. refuted (eq (time q) h.t) (λ e. omega (arith, w.real.0, (after (Some h) w q (omega (arith, w.real.0)) g).1 e));
        }

    -- what the walk keeps is the scan's answer
    pub best_scan : ((q : ℕ) → q < n → is q ≡ true → is_nan (time q) ≡ false) → (h : Option Hit) → Best is time ord n n h → h ≡ best is time n
    best_scan number h w = nearest_fixes is time n number h (best is time n) (nearest h w) (best_is_nearest is time n)
