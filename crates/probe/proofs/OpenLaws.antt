-- Which lines leave the part: the loop over them, and the answer, return by return.
use mathlib.Core.Path.{◌≡◌, refl, sym, ap, ◌∙◌}
use mathlib.Core.Bool.{Bool, true, false, cond}
use mathlib.Core.List.{List}
use Prim.Native.Nat.{ℕ, ◌+◌, ◌≤◌, ◌<◌}
use native.Mathlib.Omega.{arith}
use mir.Val.{bool_byte}
use lib.ListN.{length, set}
use lib.Ieee.{Float}
use borrow.Author.Tests.{lt-ltb, le-ltb}
use Rattle.file_part.specs.Part.{Part, part_of}
use Rattle.refusal.specs.Numbers.{too_little_scratch}
use Rattle.file_ok.proofs.RefusalLaws.{earlier_is, earlier_none}
use Rattle.scratch.specs.Refusal.{body_refusal_of}
use Rattle.wall_ray.specs.declared.strike.Ray.{Ray}
use Rattle.wall_ray.specs.Nearest.{is_open}
use Rattle.probe.specs.Scratch.{BodyPut}
use Rattle.probe.specs.Rays.{ray_at, rays_in}
use Rattle.probe.specs.Open.{open_number, Open, RaysOpen}
use Rattle.probe.proofs.RaysLaws.{answered_none, answered_more, answered_all}

-- ---- one ray more
pub open_none : (t : Part) (rays : List Float) (cells : List ℕ) → Open t rays 0 cells cells
open_none t rays cells = answered_none 0 _ cells

byte_is : (b : Bool) → bool_byte b ≡ cond b 1 0
byte_is true = refl
byte_is false = refl

-- a is what `open_towards` says
pub open_more : (t : Part) (rays : List Float) (k : ℕ) (cells cells' : List ℕ) (a : Bool) (r : Ray) → k < length cells → r ≡ ray_at rays k →
    a ≡ is_open t r.origin r.dir → Open t rays k cells cells' → Open t rays (k + 1) cells (set cells' k (bool_byte a))
unfolding open_number
open_more t rays k cells cells' a r room er ea w =
    answered_more 0 (λ j. open_number t (ray_at rays j)) k cells cells' (bool_byte a) room
    (byte_is a ∙ ap (λ (b : Bool). cond b 1 0) ea ∙ ap (open_number t) er) w

-- ---- the answer
module _ (s words : List ℕ) (reals rays : List Float) (cells : List ℕ) (r : ℕ) (e : r ≡ body_refusal_of s (length words) (length reals)) where
  pub open_refused : (r ≡ 0 → ⊥) → RaysOpen s words words reals reals rays cells cells r
  open_refused other =
      record { answer = earlier_is r _ _ e other; refused = λ _. (refl, refl, refl); body = λ z. absurd (other z); opened = λ z. absurd (other z) }

  pub open_short : r ≡ 0 → length cells < rays_in (length rays) → RaysOpen s words words reals reals rays cells cells too_little_scratch
  open_short none few =
      record {
        answer = earlier_none _ _ true (sym e ∙ none) (lt-ltb _ _ few);
        refused = λ _. (refl, refl, refl);
        body = λ z. absurd (omega (arith, z));
        opened = λ z. absurd (omega (arith, z));
      }

  pub open_answered : (words' : List ℕ) (reals' : List Float) (cells' : List ℕ) (k : ℕ) → r ≡ 0 → rays_in (length rays) ≤ length cells →
      BodyPut s words words' reals reals' → k ≤ rays_in (length rays) → rays_in (length rays) ≤ k → Open (part_of s) rays k cells cells' →
      RaysOpen s words words' reals reals' rays cells cells' 0
  open_answered words' reals' cells' k none room put below above w =
      record {
        answer = earlier_none _ _ false (sym e ∙ none) (le-ltb _ _ room);
        refused = λ other. absurd (other refl);
        body = λ _. put;
        opened = λ _. answered_all 0 _ k _ _ _ below above w;
      }
