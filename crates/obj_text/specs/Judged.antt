-- What the first pass tells. Definitions only.
use Rattle.std.specs.Prelude.{◌≡◌, List, map, ℕ, ◌≤◌, min, length, Result, Ok, Float}
use Rattle.std.specs.Result.{result_and, ForOk}
use Rattle.refusal.specs.declared.Refusal.{Refusal}
use Rattle.std.proofs.lemmas.List.Edits.{sets}
use Rattle.math.specs.declared.Vec3.{Vec3}
use Rattle.obj_number.specs.Whole.{capped}
use Rattle.obj_text.specs.declared.judge.Tally.{Tally}
use Rattle.obj_text.specs.Text.{line_refusal, vertices_of, Face, faces_of, corners_of}

-- ---- the tables: the vertex number of each corner, the index of each face and the number of its corners, and the coordinates of the first vertices
pub record Tables : Type 0 where
  pub numbers : List ℕ
  pub indices : List ℕ
  pub counts : List ℕ
  pub xs : List Float
  pub ys : List Float
  pub zs : List Float

abbrev pub tables : List ℕ → List ℕ → List ℕ → List Float → List Float → List Float → Tables
tables ns is cs xs ys zs = record { numbers = ns; indices = is; counts = cs; xs = xs; ys = ys; zs = zs }

pub record Slots (xs ys zs : List Float) : Type 0 where
  pub xs_long : length xs ≡ 16384
  pub ys_long : length ys ≡ 16384
  pub zs_long : length zs ≡ 16384

-- There is room for one line more than a part file can hold.
pub record Sized (t : Tables) : Type 0 where
  pub numbers_long : length t.numbers ≡ 16449
  pub indices_long : length t.indices ≡ 4098
  pub counts_long : length t.counts ≡ 4098
  pub slots : Slots t.xs t.ys t.zs

-- Refusal 14 or 15; where neither, how many vertices are defined, how many corners and polygons there are, of which one more than a part file can
-- hold stands for any more, and, where it can hold them, what the tables hold. Of the vertices a table holds as many as it has places.
pub record Judged (text : List ℕ) (before after : Tables) (r : Result Tally Refusal) : Type 0 where
  pub refusal : result_and r (Ok tt) ≡ line_refusal text
  pub defined : ForOk r (λ (t : Tally). t.defined ≡ length (vertices_of text))
  pub corners : ForOk r (λ (t : Tally). t.corners ≡ min (length (corners_of text)) 16385)
  pub polygons : ForOk r (λ (t : Tally). t.polygons ≡ min (length (faces_of text)) 4097)
  pub sized : Sized after
  pub numbers_are : line_refusal text ≡ Ok tt → length (corners_of text) ≤ 16384 → after.numbers ≡ sets before.numbers 0 (map capped (corners_of text))
  pub indices_are : line_refusal text ≡ Ok tt → length (faces_of text) ≤ 4096 → after.indices ≡ sets before.indices 0 (map (λ (f : Face). f.index) (faces_of text))
  pub counts_are : line_refusal text ≡ Ok tt → length (faces_of text) ≤ 4096 → after.counts ≡ sets before.counts 0 (map (λ (f : Face). length f.numbers) (faces_of text))
  pub xs_are : line_refusal text ≡ Ok tt → after.xs ≡ sets before.xs 0 (map (λ (v : Vec3). v.x) (vertices_of text))
  pub ys_are : line_refusal text ≡ Ok tt → after.ys ≡ sets before.ys 0 (map (λ (v : Vec3). v.y) (vertices_of text))
  pub zs_are : line_refusal text ≡ Ok tt → after.zs ≡ sets before.zs 0 (map (λ (v : Vec3). v.z) (vertices_of text))
