-- What each element of a list has, through appending.
use mathlib.Core.List.{List, [], ◌∷◌, ◌++◌}
use Rattle.measure_sizes.specs.Work.{Each}

pub each_append : {A : Type 0} (P : A → Type 0) (xs ys : List A) → Each P xs → Each P ys → Each P (xs ++ ys)
unfolding Each
each_append P [] ys p q = q
each_append P (x ∷ xs) ys p q = (p.0, each_append P xs ys p.1 q)
