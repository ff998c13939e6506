-- What a call of the conversion of OBJ text from Rust or C leaves. Definitions only.
use Rattle.std.specs.Prelude.{◌≡◌, cond, List, ℕ, length, Result}
use Rattle.refusal.specs.declared.Refusal.{Refusal}
use Rattle.obj_part.specs.File.{part_file, obj_refusal}
use Rattle.obj.specs.Converts.{number_of, accepts, Converts}

-- The conversion, its answer told by two numbers: the refusal's, 0 for none, and the file's length, which is set where a file is written and else
-- unchanged.
pub record Returned (text job before after : List ℕ) (old new r : ℕ) : Type 0 where
  pub answer : Result ℕ Refusal
  pub converts : Converts text job before after answer
  pub refusal : r ≡ number_of (obj_refusal text (length job) (length before))
  pub written : new ≡ cond (accepts text job (length before)) (length (part_file text job)) old
