-- What a conversion gives. Definitions only.
use Rattle.std.specs.Prelude.{◌≡◌, Bool, cond, List, ◌++◌, ℕ, length, drop, Result, Ok, Err, is_ok}
use Rattle.std.specs.Result.{result_and}
use Rattle.refusal.specs.declared.Refusal.{Refusal}
use Rattle.refusal.specs.Numbers.{number}
use Rattle.obj_part.specs.File.{part_file, obj_refusal}

-- "a definition states this paper's number and values for each of the enum's cases": the number of the refusal, 0 for none
unfoldable pub number_of : {A : Type 0} → Result A Refusal → ℕ
number_of (Ok x) = 0
number_of (Err r) = number r

-- how many bytes the part file has; 0 where there is none
unfoldable pub length_of : Result ℕ Refusal → ℕ
length_of (Ok n) = n
length_of (Err r) = 0

unfoldable pub accepts : List ℕ → List ℕ → ℕ → Bool
accepts text job room = is_ok (obj_refusal text (length job) room)

-- "accepted output fills the first bytes and changes none after them"; "14 and all later numbers leave the output buffers unchanged", and 3 and 5 here too
pub record Converts (text job before after : List ℕ) (r : Result ℕ Refusal) : Type 0 where
  pub answer : r ≡ result_and (obj_refusal text (length job) (length before)) (Ok (length (part_file text job)))
  pub number : number_of r ≡ number_of (obj_refusal text (length job) (length before))
  pub size : length_of r ≡ cond (accepts text job (length before)) (length (part_file text job)) 0
  pub buffer : after ≡ cond (accepts text job (length before)) (part_file text job ++ drop (length (part_file text job)) before) before
