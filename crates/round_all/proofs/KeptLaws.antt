-- What is kept of the rounds, one face more each.
use mathlib.Core.Path.{◌≡◌, refl, ap, ◌∙◌, subst}
use mathlib.Core.Bool.{true, false}
use mathlib.Core.List.{List, [], ◌∷◌}
use mathlib.Core.Logic.{◌⊎◌, inl, inr}
use Prim.Native.Nat.{ℕ, ◌+◌, ◌*◌, ◌≤◌, ◌<◌}
use native.Mathlib.Omega.{arith}
use lib.ListN.{length, get_or, set, length-set}
use lib.Seq.{get_or-set_same, get_or-set_other}
use lib.Ieee.{Float, nan}
use Rattle.num_float.proofs.Tests.{contrary, lt_or_ge}
use Rattle.list_laws.proofs.Stores.{stores, stores_length, stores_below, stores_at}
use Rattle.file_part.specs.Part.{Part}
use Rattle.round_frame.specs.declared.measure.Measure.{Measure}
use Rattle.round_all.specs.Round.{is_round, face_measure}
use Rattle.round_all.specs.Kept.{round_kind, KeptKinds, KeptMeasures}
use Rattle.round_frame.specs.Measure.{measure_at}
use Rattle.round_frame.specs.Work.{put_measure_of}

-- ---- the kinds
pub kinds_none : (t : Part) (l : List ℕ) → KeptKinds t 0 l
kinds_none t l = record { each = λ g low. absurd (omega (arith, low)); long = omega arith }

pub kinds_more : (t : Part) (f : ℕ) (l : List ℕ) (x : ℕ) → f < length l → x ≡ round_kind t f → KeptKinds t f l → KeptKinds t (f + 1) (set l f x)
kinds_more t f l x room e h = record { each = λ g low. go g low (lt_or_ge g f); long = omega (arith, room, length-set l f x) }
  where
    go : (g : ℕ) → g < f + 1 → (g < f) ⊎ (f ≤ g) → get_or (set l f x) g 0 ≡ round_kind t g
    go g low (inl below) = get_or-set_other l f g x 0 (λ at. omega (arith, at, below)) ∙ h.each g below
    go g low (inr above) =
        let here : f ≡ g = omega (arith, low, above) in
        subst (λ (k : ℕ). get_or (set l f x) k 0 ≡ round_kind t k) here (get_or-set_same l f x 0 room ∙ e)

-- ---- the measures: seven stores, of which the first has the place itself and the others are a run after it
module _ (l : List Float) (f : ℕ) (m : Measure) where
  abbrev begun : List Float
  begun = set l (7 * f) m.axis.x

  abbrev rest : List Float
  rest = m.axis.y ∷ m.axis.z ∷ m.length ∷ m.centre.x ∷ m.centre.y ∷ m.centre.z ∷ []

  run : put_measure_of l f m ≡ stores begun (7 * f) 1 rest
  unfolding put_measure_of
  run = refl

  pub put_long : length (put_measure_of l f m) ≡ length l
  put_long = ap (λ (k : List Float). length k) run ∙ stores_length begun (7 * f) 1 rest ∙ length-set l (7 * f) m.axis.x

  before : (j : ℕ) → j < 7 * f → get_or (put_measure_of l f m) j nan ≡ get_or l j nan
  before j h =
      ap (λ (k : List Float). get_or k j nan) run ∙ stores_below begun (7 * f) 1 rest nan j (omega (arith, h))
      ∙ get_or-set_other l (7 * f) j m.axis.x nan (λ e. omega (arith, e, h))

  put_other : (g : ℕ) → g < f → measure_at (put_measure_of l f m) g ≡ measure_at l g
  unfolding measure_at
  put_other g h =
      rw (
        before (7 * g) (omega (arith, h)),
        before (7 * g + 1) (omega (arith, h)),
        before (7 * g + 2) (omega (arith, h)),
        before (7 * g + 3) (omega (arith, h)),
        before (7 * g + 4) (omega (arith, h)),
        before (7 * g + 5) (omega (arith, h)),
        before (7 * g + 6) (omega (arith, h)),
      )

  module _ (room : 7 * f + 7 ≤ length l) where
    first : get_or (put_measure_of l f m) (7 * f) nan ≡ m.axis.x
    first =
        ap (λ (k : List Float). get_or k (7 * f) nan) run ∙ stores_below begun (7 * f) 1 rest nan (7 * f) (omega arith)
        ∙ get_or-set_same l (7 * f) m.axis.x nan (omega (arith, room))

    later : (n : ℕ) → n < 6 → get_or (put_measure_of l f m) (7 * f + (1 + n)) nan ≡ get_or rest n nan
    later n h =
        ap (λ (k : List Float). get_or k (7 * f + (1 + n)) nan) run
        ∙ stores_at begun (7 * f) 1 rest nan (omega (arith, room, length-set l (7 * f) m.axis.x)) n h

    put_same : measure_at (put_measure_of l f m) f ≡ m
    unfolding measure_at
    put_same = rw (first, later 0 (omega arith), later 1 (omega arith), later 2 (omega arith), later 3 (omega arith), later 4 (omega arith), later 5 (omega arith))

pub measures_none : (t : Part) (l : List Float) → KeptMeasures t 0 l
measures_none t l = record { each = λ g low. absurd (omega (arith, low)); long = omega arith }

pub measures_more : (t : Part) (f : ℕ) (l l' : List Float) (m : Measure) → 7 * f + 7 ≤ length l → m ≡ face_measure t f → l' ≡ put_measure_of l f m →
    KeptMeasures t f l → KeptMeasures t (f + 1) l'
measures_more t f l l' m room e put h = record {
  each = λ g low r. ap (λ (k : List Float). measure_at k g) put ∙ go g low r (lt_or_ge g f);
  long = omega (arith, room, ap (λ (k : List Float). length k) put, put_long l f m);
}
  where
    go : (g : ℕ) → g < f + 1 → is_round t g ≡ true → (g < f) ⊎ (f ≤ g) → measure_at (put_measure_of l f m) g ≡ face_measure t g
    go g low r (inl lower) = put_other l f m g lower ∙ h.each g lower r
    go g low r (inr above) =
        let here : f ≡ g = omega (arith, low, above) in
        subst (λ (k : ℕ). measure_at (put_measure_of l f m) k ≡ face_measure t k) here (put_same l f m room ∙ e)

-- a face that is no round keeps none
pub measures_skip : (t : Part) (f : ℕ) (l : List Float) → 7 * f + 7 ≤ length l → is_round t f ≡ false → KeptMeasures t f l → KeptMeasures t (f + 1) l
measures_skip t f l room flat h = record { each = λ g low r. go g low r (lt_or_ge g f); long = omega (arith, room) }
  where
    go : (g : ℕ) → g < f + 1 → is_round t g ≡ true → (g < f) ⊎ (f ≤ g) → measure_at l g ≡ face_measure t g
    go g low r (inl lower) = h.each g lower r
    go g low r (inr above) =
        let here : g ≡ f = omega (arith, low, above) in
        absurd (contrary (subst (λ (k : ℕ). is_round t k ≡ true) here r) flat)
