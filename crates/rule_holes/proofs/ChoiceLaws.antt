-- What a test chooses, and a test beside one that is known.
use mathlib.Core.Path.{◌≡◌, refl, sym, ap, ◌∙◌}
use mathlib.Core.Bool.{Bool, true, false, ◌||◌, cond}

module _ {X : Type 0} (x y : X) {b c : Bool} (e : b ≡ c) where
  pub chosen_first : b ≡ true → x ≡ cond c x y
  chosen_first h = sym (ap (λ (d : Bool). cond d x y) (sym e ∙ h))

  pub chosen_second : b ≡ false → y ≡ cond c x y
  chosen_second h = sym (ap (λ (d : Bool). cond d x y) (sym e ∙ h))

pub or_true : (b : Bool) → (b || true) ≡ true
or_true true = refl
or_true false = refl

pub or_false : (b : Bool) → (b || false) ≡ b
or_false true = refl
or_false false = refl
