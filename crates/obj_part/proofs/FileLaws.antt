-- How long the parts of a part file are.
use mathlib.Core.Path.{◌≡◌, refl}
use mathlib.Core.List.{List, [], ◌∷◌, ◌++◌}
use Prim.Native.Nat.{ℕ, suc, ◌+◌, ◌*◌}
use native.Mathlib.Omega.{arith}
use lib.ListN.{length, length-append}
use Rattle.math.specs.declared.Vec3.{Vec3}
use Rattle.file_part.specs.Layout.{size_of}
use Rattle.obj_text.specs.Text.{Face, faces_of, corners_of, vertex_of}
use Rattle.obj_part.specs.Bytes.{le32, le64, f64_bytes, vec_bytes, entry_bytes, trailer_bytes}
use Rattle.obj_part.specs.File.{vertex_block, entries_from, part_file}

vec_length : (v : Vec3) → length (vec_bytes v) ≡ 24
unfolding vec_bytes f64_bytes le64 le32
vec_length v = refl

entry_length : (index first count : ℕ) → length (entry_bytes index first count) ≡ 80
unfolding entry_bytes le32
entry_length index first count = refl

trailer_length : (v p : ℕ) → length (trailer_bytes v p) ≡ 16
unfolding trailer_bytes le32
trailer_length v p = refl

pub block_length : (text ns : List ℕ) → length (vertex_block text ns) ≡ 24 * length ns
unfolding vertex_block
block_length text [] = refl
block_length text (n ∷ ns) =
    let v = vec_bytes (vertex_of text n) in
    more (length (v ++ vertex_block text ns)) (length v) (length (vertex_block text ns)) (length ns) (length-append v (vertex_block text ns)) (vec_length (vertex_of text n)) (block_length text ns)
  where
    more : (t a b n : ℕ) → t ≡ a + b → a ≡ 24 → b ≡ 24 * n → t ≡ 24 * suc n
    more t a b n e f g = omega arith

pub entries_length : (fs : List Face) (first : ℕ) → length (entries_from first fs) ≡ 80 * length fs
unfolding entries_from
entries_length [] first = refl
entries_length (f ∷ fs) first =
    let e = entry_bytes f.index first (length f.numbers) in
    let l = entries_from (first + length f.numbers) fs in
    more (length (e ++ l)) (length e) (length l) (length fs) (length-append e l) (entry_length f.index first (length f.numbers)) (entries_length fs (first + length f.numbers))
  where
    more : (t a b n : ℕ) → t ≡ a + b → a ≡ 80 → b ≡ 80 * n → t ≡ 80 * suc n
    more t a b n e f g = omega arith

-- "length .. 24V + 80P + 144"
pub part_length : (text job : List ℕ) → length job ≡ 128 → length (part_file text job) ≡ size_of (length (corners_of text)) (length (faces_of text))
unfolding part_file
part_length text job h =
    let v = length (corners_of text) in
    let p = length (faces_of text) in
    let a = vertex_block text (corners_of text) in
    let b = entries_from 0 (faces_of text) in
    let t = trailer_bytes v p in
    sum (length (a ++ (b ++ (job ++ t)))) (length a) (length (b ++ (job ++ t))) (length b) (length (job ++ t)) (length job) (length t) v p (length-append a (b ++ (job ++ t))) (length-append b (job ++ t))
    (length-append job t) (block_length text (corners_of text)) (entries_length (faces_of text) 0) h (trailer_length v p)
  where
    sum : (n a x b y j t v p : ℕ) → n ≡ a + x → x ≡ b + y → y ≡ j + t → a ≡ 24 * v → b ≡ 80 * p → j ≡ 128 → t ≡ 16 → n ≡ 24 * v + 80 * p + 144
    sum n a x b y j t v p e f g h i k l = omega arith
