-- Laws of `side_key`: sides that have one key have it of each other and in a row, where ends do.
use mathlib.Core.Path.{◌≡◌, refl}
use mathlib.Core.Logic.{◌⊎◌, ⊎_elim, inl, inr}
use mathlib.Core.Bool.{Bool, true, false, ◌&&◌, ◌||◌}
use Prim.Native.Nat.{ℕ, ◌<◌}
use borrow.Author.Tests.{not-true}
use Rattle.num_float.proofs.Tests.{refuted, contrary, same_test, and_true, and_left, and_right}
use Rattle.solid_keys.specs.Pair.{is_live, both_ends, same_pair, side_key}

-- a test of two that goes both ways and in a row
pub record Alike (same : ℕ → ℕ → Bool) : Type 0 where
  pub flip : (a b : ℕ) → same a b ≡ true → same b a ≡ true
  pub join : (a b c : ℕ) → same a b ≡ true → same b c ≡ true → same a c ≡ true

or_cases : (a b : Bool) → (a || b) ≡ true → (a ≡ true) ⊎ (b ≡ true)
or_cases true b h = inl refl
or_cases false b h = inr h

or_first : (a b : Bool) → a ≡ true → (a || b) ≡ true
or_first true b h = refl
or_first false b h = absurd (contrary h refl)

or_second : (a b : Bool) → b ≡ true → (a || b) ≡ true
or_second true b h = refl
or_second false b h = h

-- tests that agree on the ends of two sides agree on the sides
pub side_same : (f g : ℕ → ℕ → Bool) (from to : ℕ → ℕ) (n u s : ℕ) → u < n → s < n → ((v : ℕ) → v < n → from v ≡ to v) → ((v : ℕ) → v < n → to v < n)
    → ((a b : ℕ) → a < n → b < n → f a b ≡ g a b) → side_key f from u s ≡ side_key g to u s
unfolding side_key is_live same_pair both_ends
side_same f g from to n u s l m e inside h =
    rw (
      e u l,
      e s m,
      h s (to s) m (inside s m),
      h u s l m,
      h (to u) (to s) (inside u l) (inside s m),
      h u (to s) l (inside s m),
      h (to u) s (inside u l) m,
    )

module _ (same : ℕ → ℕ → Bool) (to : ℕ → ℕ) (self : (a : ℕ) → same a a ≡ true) (alike : Alike same) where
  -- the keys of a, b are those of c, d
  abbrev Match : ℕ → ℕ → ℕ → ℕ → Type 0
  Match a b c d = ((same a c ≡ true) × (same b d ≡ true)) ⊎ ((same a d ≡ true) × (same b c ≡ true))

  to_match : (a b c d : ℕ) → same_pair same a b c d ≡ true → Match a b c d
  unfolding same_pair both_ends
  to_match a b c d h =
      ⊎_elim
      (λ e. inl (and_left (same a c) (same b d) e, and_right (same a c) (same b d) e))
      (λ e. inr (and_left (same a d) (same b c) e, and_right (same a d) (same b c) e))
      (or_cases (same a c && same b d) (same a d && same b c) h)

  of_match : (a b c d : ℕ) → Match a b c d → same_pair same a b c d ≡ true
  unfolding same_pair both_ends
  of_match a b c d h =
      ⊎_elim
      (λ e. or_first (same a c && same b d) (same a d && same b c) (and_true (same a c) (same b d) e.0 e.1))
      (λ e. or_second (same a c && same b d) (same a d && same b c) (and_true (same a d) (same b c) e.0 e.1))
      h

  match_flip : (a b c d : ℕ) → Match a b c d → Match c d a b
  match_flip a b c d h =
      ⊎_elim
      (λ e. inl (alike.flip a c e.0, alike.flip b d e.1))
      (λ e. inr (alike.flip b c e.1, alike.flip a d e.0))
      h

  match_join : (a b c d e f : ℕ) → Match a b c d → Match c d e f → Match a b e f
  match_join a b c d e f h g =
      ⊎_elim
      (λ p.
      ⊎_elim
      (λ q. inl (alike.join a c e p.0 q.0, alike.join b d f p.1 q.1))
      (λ q. inr (alike.join a c f p.0 q.0, alike.join b d e p.1 q.1))
      g)
      (λ p.
      ⊎_elim
      (λ q. inr (alike.join a d f p.0 q.1, alike.join b c e p.1 q.0))
      (λ q. inl (alike.join a d e p.0 q.1, alike.join b c f p.1 q.0))
      g)
      h

  -- where the ends of one agree, so do those of the other
  match_ends : (a b c d : ℕ) → Match a b c d → same a b ≡ true → same c d ≡ true
  match_ends a b c d h k =
      ⊎_elim
      (λ e. alike.join c a d (alike.flip a c e.0) (alike.join a b d k e.1))
      (λ e. alike.join c b d (alike.flip b c e.1) (alike.join b a d (alike.flip a b k) e.0))
      h

  pub side_live : (u s : ℕ) → side_key same to u s ≡ true → is_live same to s ≡ true
  unfolding side_key
  side_live u s h = and_left (is_live same to s) (same_pair same u (to u) s (to s)) h

  pub side_match : (u s : ℕ) → side_key same to u s ≡ true → Match u (to u) s (to s)
  unfolding side_key
  side_match u s h = to_match u (to u) s (to s) (and_right (is_live same to s) (same_pair same u (to u) s (to s)) h)

  side_of : (u s : ℕ) → is_live same to s ≡ true → Match u (to u) s (to s) → side_key same to u s ≡ true
  unfolding side_key
  side_of u s h m = and_true (is_live same to s) (same_pair same u (to u) s (to s)) h (of_match u (to u) s (to s) m)

  live_flip : (u s : ℕ) → Match u (to u) s (to s) → is_live same to s ≡ true → is_live same to u ≡ true
  unfolding is_live
  live_flip u s m h = rw (refuted (same u (to u)) (λ k. contrary (match_ends u (to u) s (to s) m k) (not-true (same s (to s)) h)))

  pub sides_alike : Alike (side_key same to)
  sides_alike =
      record {
        flip = λ a b h. side_of b a (live_flip a b (side_match a b h) (side_live a b h)) (match_flip a (to a) b (to b) (side_match a b h));
        join = λ a b c h g. side_of a c (side_live b c g) (match_join a (to a) b (to b) c (to c) (side_match a b h) (side_match b c g));
      }

  -- a side has a key where its end keys differ
  pub side_self : (s : ℕ) → side_key same to s s ≡ is_live same to s
  side_self s = same_test (side_key same to s s) (is_live same to s) (side_live s s) (λ h. side_of s s h (inl (self s, self (to s))))
