-- The least squared distance from some edges does not depend on their order, and its root is the least distance as crate solid_edges defines it.
use mathlib.Core.Path.{◌≡◌, refl, sym, ap, ◌∙◌, subst}
use mathlib.Core.Bool.{Bool, true, false, cond}
use mathlib.Core.Logic.{◌⊎◌, inl, inr}
use mathlib.Core.List.Memᴰ
use mathlib.Core.List.{List, [], ◌∷◌, ◌++◌, append-nil, Memᴰ}
use Prim.Native.Nat.{ℕ, zero, suc, ◌+◌, ◌<◌}
use native.Mathlib.Numerals.{add-one}
use native.Mathlib.Nat.{le_antisymm}
use lib.Dec.{T}
use lib.Ieee.{Float, nan, inf, fin, binary64, fits, lt, is_nan, of_bits}
use lib.Ieee.Scale.{finite}
use Rattle.num_float.specs.Order.{lesser}
use Rattle.num_float.specs.Units.{minus_sign}
use Rattle.num_float.proofs.Tests.{contrary, refuted}
use Rattle.num_float.proofs.Line.{le→≤}
use Rattle.num_float.proofs.Order.{lt_trans, lt_irrefl, lt_le, lt_le_trans, not_lt_le, le_numbers}
use Rattle.num_float.proofs.NonNegative.{not_negative, as_fractions}
use Rattle.num_float.specs.Sign.{plus_zero, NonNeg}
use Rattle.num_float.proofs.Units.{units_le, units_unique}
use Rattle.num_root.specs.Root.{root}
use Rattle.num_norm.proofs.LeastRoot.{Operand}
use Rattle.num_norm.proofs.Squares.{squared_operand, squared_of}
use Rattle.math.specs.declared.Vec3.{Vec3}
use Rattle.math.specs.Vector.{minus, length_sq_of}
use Rattle.list_groups.specs.Groups.{passing}
use Rattle.file_part.specs.Part.{Part}
use Rattle.solid_segments.specs.Sides.{to_of}
use Rattle.solid_distance.specs.Segment.{nearest_on}
use Rattle.solid_edges.specs.Distance.{distance_to}
use Rattle.solid_edges.specs.Work.{side_square}
use Rattle.solid_edges.proofs.DistanceLaws.{LeastSquare, least_none, least_near, least_past}
use Rattle.solid_tours.specs.Work.{least_square, least_distance}
use Rattle.solid_tours.proofs.Passing.{passing_zero, passing_step, mem_passing, passing_mem}

-- ---- squared lengths that are numbers: infinity, or finite with a plus sign
record Plus (x : Float) : Type 0 where
  number : is_nan x ≡ false
  operand : Operand x
  sign : T (finite x) → minus_sign x ≡ false

square_plus : (t : Part) (p : Vec3) (s : ℕ) → is_nan (side_square t p s) ≡ false → Plus (side_square t p s)
unfolding side_square length_sq_of
square_plus t p s h =
    let v = minus (nearest_on p (t.vertex s) (t.vertex (to_of t s))) p in
    record { number = h; operand = squared_operand v.x v.y v.z; sign = λ f. (squared_of v.x v.y v.z f).sign }

inf_plus : Plus (inf false)
unfolding is_nan fits lt of_bits
inf_plus = record { number = refl; operand = record { fit = tt; not_below = refl }; sign = λ f. absurd f }

nonneg : (x : Float) → Plus x → NonNeg x
unfolding is_nan
nonneg x h = go (not_negative x h.operand.not_below)
  where
    go : (x ≡ nan) ⊎ NonNeg x → NonNeg x
    go (inl e) = absurd (contrary (ap is_nan e) h.number)
    go (inr p) = p

below_zero : lt (inf true) plus_zero ≡ true
unfolding lt of_bits
below_zero = refl

-- nothing is above infinity
above_all : (x : Float) → lt (inf false) x ≡ false
unfolding lt
above_all nan = refl
above_all (inf true) = refl
above_all (inf false) = refl
above_all (fin s m e) = refl

-- two of them of which neither is less are one
plus_same : (x y : Float) → Plus x → Plus y → lt x y ≡ false → lt y x ≡ false → x ≡ y
unfolding is_nan lt
plus_same nan y p q h k = absurd (contrary refl p.number)
plus_same (inf true) y p q h k = absurd (contrary below_zero p.operand.not_below)
plus_same (inf false) nan p q h k = absurd (contrary refl q.number)
plus_same (inf false) (inf true) p q h k = absurd (contrary refl k)
plus_same (inf false) (inf false) p q h k = refl
plus_same (inf false) (fin u n d) p q h k = absurd (contrary refl k)
plus_same (fin s m e) nan p q h k = absurd (contrary refl q.number)
plus_same (fin s m e) (inf true) p q h k = absurd (contrary refl k)
plus_same (fin s m e) (inf false) p q h k = absurd (contrary refl h)
plus_same (fin s m e) (fin u n d) p q h k =
    let x = fin s m e in
    let y = fin u n d in
    let f = p.operand.fit in
    let g = q.operand.fit in
    let xy = not_lt_le y x q.number p.number k in
    let yx = not_lt_le x y p.number q.number h in
    units_unique x y f g tt tt (p.sign tt ∙ sym (q.sign tt))
    (le_antisymm (units_le x y f g (le→≤ (as_fractions x y tt tt (nonneg x p) (nonneg y q)) xy)) (units_le y x g f (le→≤ (as_fractions y x tt tt (nonneg y q) (nonneg x p)) yx)))

-- ---- the least of a and the squares of some edges, with nothing computed
module _ (t : Part) (p : Vec3) where
  abbrev square : ℕ → Float
  square s = side_square t p s

  record Least (a : Float) (l : List ℕ) (x : Float) : Type 0 where
    number : is_nan x ≡ false
    not_above : lt a x ≡ false
    none_less : (s : ℕ) → Memᴰ s l → lt (square s) x ≡ false
    of_some : (x ≡ a) ⊎ ((s : ℕ) × Memᴰ s l × (x ≡ square s))

  least_step : (a : Float) (s : ℕ) (l : List ℕ) (x : Float) (b : Bool) → is_nan a ≡ false → lt (square s) a ≡ b → Least (cond b (square s) a) l x → Least a (s ∷ l) x
  least_step a s l x true n c h =
      record {
        number = h.number;
        not_above = refuted (lt a x) (λ w. contrary (lt_trans (square s) a x c w) h.not_above);
        none_less = λ u m. each u (Memᴰ.cases_cons m);
        of_some = some h.of_some;
      }
    where
      each : (u : ℕ) → (u ≡ s) ⊎ Memᴰ u l → lt (square u) x ≡ false
      each u (inl e) = ap (λ (k : ℕ). lt (square k) x) e ∙ h.not_above
      each u (inr m) = h.none_less u m

      some : (x ≡ square s) ⊎ ((u : ℕ) × Memᴰ u l × (x ≡ square u)) → (x ≡ a) ⊎ ((u : ℕ) × Memᴰ u (s ∷ l) × (x ≡ square u))
      some (inl e) = inr (s, Memᴰ.head refl, e)
      some (inr w) = inr (w.0, Memᴰ.tail w.1, w.2)
  least_step a s l x false n c h =
      record {
        number = h.number;
        not_above = h.not_above;
        none_less = λ u m. each u (Memᴰ.cases_cons m);
        of_some = some h.of_some;
      }
    where
      each : (u : ℕ) → (u ≡ s) ⊎ Memᴰ u l → lt (square u) x ≡ false
      each u (inl e) =
          ap (λ (k : ℕ). lt (square k) x) e
          ∙ refuted (lt (square s) x) (λ w. contrary (lt_le_trans (square s) x a w (not_lt_le a x n h.number h.not_above)) c)
      each u (inr m) = h.none_less u m

      some : (x ≡ a) ⊎ ((u : ℕ) × Memᴰ u l × (x ≡ square u)) → (x ≡ a) ⊎ ((u : ℕ) × Memᴰ u (s ∷ l) × (x ≡ square u))
      some (inl e) = inl e
      some (inr w) = inr (w.0, Memᴰ.tail w.1, w.2)

  lesser_number : (a x : Float) → is_nan a ≡ false → is_nan (lesser a x) ≡ false
  lesser_number a x h = go (lt x a) refl
    where
      go : (b : Bool) → lt x a ≡ b → is_nan (cond b x a) ≡ false
      go true l = (le_numbers x a (lt_le x a l)).0
      go false l = h

  least_is : (a : Float) (l : List ℕ) → is_nan a ≡ false → Least a l (least_square t p a l)
  unfolding least_square
  least_is a [] n =
      record { number = n; not_above = lt_irrefl a; none_less = λ s m. absurd (Memᴰ.not-nil m); of_some = inl refl }
  least_is a (s ∷ l) n =
      least_step a s l (least_square t p (lesser a (square s)) l) (lt (square s) a) n refl (least_is (lesser a (square s)) l (lesser_number a (square s) n))

  -- one list's least is no more than that of another that has no other edges
  least_le : (l k : List ℕ) (x y : Float) → ((s : ℕ) → Memᴰ s l → Memᴰ s k) → Least (inf false) l x → Least (inf false) k y → lt x y ≡ false
  least_le l k x y to hx hy = go hx.of_some
    where
      go : (x ≡ inf false) ⊎ ((s : ℕ) × Memᴰ s l × (x ≡ square s)) → lt x y ≡ false
      go (inl e) = ap (λ (z : Float). lt z y) e ∙ hy.not_above
      go (inr w) = ap (λ (z : Float). lt z y) w.2 ∙ hy.none_less w.0 (to w.0 w.1)

  least_plus : (l : List ℕ) (x : Float) → Least (inf false) l x → Plus x
  least_plus l x h = go h.of_some
    where
      go : (x ≡ inf false) ⊎ ((s : ℕ) × Memᴰ s l × (x ≡ square s)) → Plus x
      go (inl e) = subst Plus (sym e) inf_plus
      go (inr w) = subst Plus (sym w.2) (square_plus t p w.0 (ap is_nan (sym w.2) ∙ h.number))

  inf_number : is_nan (inf false) ≡ false
  unfolding is_nan
  inf_number = refl

  pub least_number : (l : List ℕ) → is_nan (least_square t p (inf false) l) ≡ false
  least_number l = (least_is (inf false) l inf_number).number

  -- where none is less than x, from x on, the least is not
  pub least_beyond : (x : Float) (l : List ℕ) → is_nan x ≡ false → lt (least_square t p x l) x ≡ false → lt (least_square t p (inf false) l) x ≡ false
  least_beyond x l n none = go (least_is (inf false) l inf_number).of_some
    where
      y : Float
      y = least_square t p x l

      z : Float
      z = least_square t p (inf false) l

      h : Least x l y
      h = least_is x l n

      not_above : (s : ℕ) → Memᴰ s l → lt (square s) x ≡ false
      not_above s m =
          refuted (lt (square s) x) (λ w. contrary (lt_le_trans (square s) x y w (not_lt_le y x h.number n none)) (h.none_less s m))

      go : (z ≡ inf false) ⊎ ((s : ℕ) × Memᴰ s l × (z ≡ square s)) → lt z x ≡ false
      go (inl e) = ap (λ (k : Float). lt k x) e ∙ above_all x
      go (inr w) = ap (λ (k : Float). lt k x) w.2 ∙ not_above w.0 w.1

  -- the order does not matter
  pub same_least : (l k : List ℕ) → ((s : ℕ) → Memᴰ s l → Memᴰ s k) → ((s : ℕ) → Memᴰ s k → Memᴰ s l)
      → least_square t p (inf false) l ≡ least_square t p (inf false) k
  same_least l k to back =
      let hl = least_is (inf false) l inf_number in
      let hk = least_is (inf false) k inf_number in
      plus_same (least_square t p (inf false) l) (least_square t p (inf false) k) (least_plus l (least_square t p (inf false) l) hl)
      (least_plus k (least_square t p (inf false) k) hk) (least_le l k (least_square t p (inf false) l) (least_square t p (inf false) k) to hl hk)
      (least_le k l (least_square t p (inf false) k) (least_square t p (inf false) l) back hk hl)

  -- ---- one edge more
  pub least_more : (a : Float) (l : List ℕ) (s : ℕ) → least_square t p a (l ++ (s ∷ [])) ≡ lesser (least_square t p a l) (square s)
  unfolding least_square
  least_more a [] s = refl
  least_more a (u ∷ l) s = least_more (lesser a (square u)) l s

  pub inf_bits : of_bits binary64 0x7ff0_0000_0000_0000 ≡ inf false
  unfolding of_bits
  inf_bits = refl

  pub least_nil : of_bits binary64 0x7ff0_0000_0000_0000 ≡ least_square t p (inf false) []
  unfolding least_square
  least_nil = inf_bits

  -- ---- all sides that pass a test
  module _ (test : ℕ → Bool) where
    in_order : (n : ℕ) → LeastSquare t test p n (least_square t p (inf false) (passing test n))
    in_order zero = subst (LeastSquare t test p 0) (least_nil ∙ ap (least_square t p (inf false)) (sym (passing_zero test))) (least_none t test p)
    in_order (suc n) =
        subst (λ (k : ℕ). LeastSquare t test p k (least_square t p (inf false) (passing test (suc n)))) (add-one n) (go (in_order n) (test n) refl)
      where
        x : Float
        x = least_square t p (inf false) (passing test n)

        go : LeastSquare t test p n x → (b : Bool) → test n ≡ b → LeastSquare t test p (n + 1) (least_square t p (inf false) (passing test (suc n)))
        go h true e =
            least_near t test p n x (least_square t p (inf false) (passing test (suc n))) true h (sym e) refl
            (ap (least_square t p (inf false)) (passing_step test n ∙ ap (λ (b : Bool). passing test n ++ cond b (n ∷ []) []) e) ∙ least_more (inf false) (passing test n) n)
        go h false e =
            least_past t test p n x (least_square t p (inf false) (passing test (suc n))) false h (sym e) refl
            (ap (least_square t p (inf false)) (passing_step test n ∙ ap (λ (b : Bool). passing test n ++ cond b (n ∷ []) []) e ∙ append-nil (passing test n)))

    -- in whatever order
    pub least_distance_lem : (n : ℕ) (l : List ℕ) → ((s : ℕ) → Memᴰ s l → (s < n) × (test s ≡ true)) → ((s : ℕ) → s < n → test s ≡ true → Memᴰ s l)
        → least_distance t p l ≡ distance_to t test p n
    unfolding least_distance
    least_distance_lem n l to back =
        ap root (same_least l (passing test n) (λ s m. passing_mem test n s (to s m).0 (to s m).1)
        (λ s m. let w = mem_passing test n m in back s w.0 w.1))
        ∙ (in_order n).root_is
