-- What private functions leave on the way; a reader may pass over it. Definitions only.
use Rattle.std.specs.Prelude.{◌≡◌, ◌&&◌, cond, List, [], ◌∷◌, ℕ, ◌+◌, ◌-◌, ◌≤◌, ◌<◌, ltb, leb, length, drop, get_or, set, Float}
use Rattle.std.specs.Float.{nan}
use Rattle.math.specs.declared.Vec3.{Vec3}
use Rattle.obj_line.specs.declared.line.Line.{Line}
use Rattle.obj_line.specs.Form.{Form, vertex, face, group, skipped, other}
use Rattle.obj_text.specs.Text.{origin, vertices_from}
use Rattle.obj_text.specs.Judged.{Slots}
use Rattle.obj_text.specs.Work.{forms_from}

-- a line that 14 does not refuse
unfoldable pub Formed : Form → Type 0
Formed f = f ≡ other → ⊥

unfoldable pub AllFormed : List Form → Type 0
unfolding Formed
AllFormed [] = Unit {0}
AllFormed (f ∷ fs) = Formed f × AllFormed fs

-- ---- vertices that no corner names
pub record Nearer (gap base number r : ℕ) : Type 0 where
  pub less : r ≤ gap
  pub before_it : base < number → base + r < number

-- of the vertices after the first `base`, the first r are named by no corner
pub record Unnamed (numbers : List ℕ) (used base r : ℕ) : Type 0 where
  pub none : (c : ℕ) → c < used → base < get_or numbers c 0 → base + r < get_or numbers c 0

unfoldable pub defines : Form → ℕ
defines (vertex v) = 1
defines (face ns) = 0
defines (group i) = 0
defines skipped = 0
defines other = 0

-- where the lines from a place on define the vertices after the first `base` of vs, those from another on define the ones after n more
unfoldable pub Past : List ℕ → ℕ → ℕ → ℕ → Type 0
Past text from at n = (vs : List Vec3) (base : ℕ) → drop base vs ≡ vertices_from (forms_from text from) → drop (base + n) vs ≡ vertices_from (forms_from text at)

pub record Skipped (text : List ℕ) (from most at n : ℕ) : Type 0 where
  pub inside : at ≤ length text + 1
  pub count_most : n ≤ most
  pub few : n + from ≤ at
  pub past : Past text from at n
  pub formed : AllFormed (forms_from text at)

-- ---- the vertices of a window
unfoldable pub stored_in : (Vec3 → Float) → List Float → ℕ → Line → List Float
stored_in f xs n (Line.Vertex v) = set xs n (f v)
stored_in f xs n (Line.Face c) = xs
stored_in f xs n (Line.Group i) = xs
stored_in f xs n Line.Skipped = xs
stored_in f xs n Line.Other = xs

unfoldable pub count_after : ℕ → Line → ℕ
count_after n (Line.Vertex v) = n + 1
count_after n (Line.Face c) = n
count_after n (Line.Group i) = n
count_after n Line.Skipped = n
count_after n Line.Other = n

pub record LoadedLine (line : Line) (n : ℕ) (xs ys zs xs' ys' zs' : List Float) (r : ℕ) : Type 0 where
  pub x_then : xs' ≡ stored_in (λ (v : Vec3). v.x) xs n line
  pub y_then : ys' ≡ stored_in (λ (v : Vec3). v.y) ys n line
  pub z_then : zs' ≡ stored_in (λ (v : Vec3). v.z) zs n line
  pub count_then : r ≡ count_after n line

-- one coordinate f of n vertices after the first `base` of vs
unfoldable pub Holds : (Vec3 → Float) → List Vec3 → ℕ → ℕ → List Float → Type 0
Holds f vs base n slots = (j : ℕ) → j < n → get_or slots j nan ≡ f (get_or vs (base + j) origin)

-- one coordinate of the vertices that the lines from a place on define
unfoldable pub HoldsFrom : (Vec3 → Float) → List ℕ → ℕ → ℕ → List Float → Type 0
HoldsFrom f text from n slots = (vs : List Vec3) (base : ℕ) → drop base vs ≡ vertices_from (forms_from text from) → Holds f vs base n slots

pub record Loaded (text : List ℕ) (from : ℕ) (xs ys zs : List Float) (at n : ℕ) : Type 0 where
  pub inside : at ≤ length text + 1
  pub count_most : n ≤ 16384
  pub few : n + from ≤ at
  pub further : from ≤ length text → from < at
  pub past : Past text from at n
  pub formed : AllFormed (forms_from text from) → AllFormed (forms_from text at)
  pub long : Slots xs ys zs
  pub holds_x : HoldsFrom (λ (v : Vec3). v.x) text from n xs
  pub holds_y : HoldsFrom (λ (v : Vec3). v.y) text from n ys
  pub holds_z : HoldsFrom (λ (v : Vec3). v.z) text from n zs

-- ---- a window of vertices: those after the first `base`, `count` of them, with one coordinate of each in a table
-- the coordinate of a corner: from the window where its number is one of the window's, else what it was
unfoldable pub picked : List Float → ℕ → ℕ → ℕ → Float → Float
picked slots base count number old = cond (ltb base number && leb number (base + count)) (get_or slots (number - base - 1) nan) old

pub record Flushed (numbers : List ℕ) (used base : ℕ) (slots : List Float) (count : ℕ) (before after : List Float) : Type 0 where
  pub same_length : length after ≡ length before
  pub each : (c : ℕ) → c < used → get_or after c nan ≡ picked slots base count (get_or numbers c 0) (get_or before c nan)

-- one coordinate f of the vertices vs: the window's, and those of the corners whose numbers lie before it
pub record Axis (f : Vec3 → Float) (vs : List Vec3) (numbers : List ℕ) (used base count : ℕ) (slots corners : List Float) : Type 0 where
  pub slots_long : length slots ≡ 16384
  pub corners_long : length corners ≡ 16384
  pub slot : (j : ℕ) → j < count → get_or slots j nan ≡ f (get_or vs (base + j) origin)
  pub corner : (c : ℕ) → c < used → 1 ≤ get_or numbers c 0 → get_or numbers c 0 ≤ base → get_or corners c nan ≡ f (get_or vs (get_or numbers c 0 - 1) origin)
