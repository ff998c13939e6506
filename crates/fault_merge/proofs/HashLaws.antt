-- Laws of the hash: how a loop makes it, and that different hashes mean different headings.
use mathlib.Core.Path.{◌≡◌, refl, ap}
use mathlib.Core.Bool.{false}
use mathlib.Core.List.{List}
use Prim.Native.Nat.{ℕ, ◌+◌, ◌*◌, ◌%◌, ◌<◌, ◌≤◌}
use native.Mathlib.Nat.{mod-lt}
use native.Mathlib.Numerals.{add-one}
use lib.Dec.{lit<}
use lib.ListN.{length, drop, get_or, drop_of_length-le}
use lib.Seq.{drop-cons}
use Rattle.fault_row.specs.Fault.{Heading}
use Rattle.fault_lines.specs.Line.{same_heading_of}
use Rattle.fault_lines.proofs.HeadingLaws.{heading_off}
use Rattle.fault_merge.specs.Hash.{hash_from, hash_of}

pub hash_below : (x : ℕ) → x % 4294967296 < 4294967296
hash_below x = mod-lt x (lit< tt)

pub hash_start : (text : List ℕ) → hash_from 0 (drop 0 text) ≡ hash_of text
unfolding hash_of
hash_start text = refl

pub hash_step : (text : List ℕ) (i h x : ℕ) → i < length text → hash_from h (drop i text) ≡ x
    → hash_from ((h * 16777619 + get_or text i 0) % 4294967296) (drop (i + 1) text) ≡ x
unfolding hash_from
hash_step text i h x l w = rw (drop-cons text i 0, ← add-one) at w

pub hash_end : (text : List ℕ) (i h x : ℕ) → length text ≤ i → hash_from h (drop i text) ≡ x → h ≡ x
unfolding hash_from
hash_end text i h x l w = rw (drop_of_length-le text l) at w

-- different hashes, different headings
pub other_hash : (a b : Heading) → (hash_of a.text ≡ hash_of b.text → ⊥) → same_heading_of a b ≡ false
other_hash a b h = heading_off a b (λ e. h (ap (λ (x : Heading). hash_of x.text) e))
