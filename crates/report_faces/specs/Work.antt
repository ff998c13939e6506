-- What private functions leave on the way; a reader may pass over it. Definitions only.
pub mod Search
use Rattle.std.specs.Prelude.{◌≡◌, true, Bool, ◌&&◌, ◌||◌, cond, false, List, [], ◌∷◌, ◌++◌, ℕ, ◌+◌, ◌≤◌, ◌<◌, zero, suc, ◌-◌, ◌*◌, eqb, length, get_or, Float}
use Rattle.list_laws.specs.Region.{part}
use Rattle.file_part.specs.declared.read.FaceId.{FaceId}
use Rattle.file_part.specs.Part.{Part, part_of}
use Rattle.solid_faces.specs.Faces.{faces_of}
use Rattle.solid_bodies.specs.Body.{some_below}
use Rattle.solid_ids.specs.Ids.{id_of}
use Rattle.scratch.specs.declared.regions.Regions.{Regions}
use Rattle.scratch.specs.Regions.{Laid}
use Rattle.scratch.specs.Standing.{Placed, Words}
use Rattle.solid_ranks.specs.Kept.{Ranked}
use Rattle.sheet_thickness.specs.Kept.{OffFaces}
use Rattle.print_overhang.specs.Overhang.{lean_of_word}
use Rattle.print_overhang.specs.Kept.{Marks}
use Rattle.fault_merge.specs.Rows.{Rows}
use Rattle.fault_merge.specs.Merged.{Merged}
use Rattle.report_faces.specs.declared.marks.Listing.{Listing}
use Rattle.report_faces.specs.declared.named.Named.{Named}
use Rattle.report_faces.specs.declared.named.Named.TheVariants.{NoFace, One, Two, Off, Hanging, Body}
use Rattle.report_faces.specs.Text.{id_text}
use Rattle.report_faces.specs.Work.Search.{Next}
use Rattle.report_faces.specs.Named.{named_at}

-- ---- the polygons of each body as a chain: at each polygon stands the next of its body
-- no label is higher than its polygon: a body goes by its lowest
unfoldable pub Low : List ℕ → Type 0
Low labels = (p : ℕ) → p < length labels → get_or labels p 0 ≤ p

-- the polygon after p of its body, or their number for none
unfoldable pub LinkedAt : List ℕ → ℕ → ℕ → Type 0
LinkedAt labels p next = Next (λ q. eqb (get_or labels q 0) (get_or labels p 0)) (p + 1) (length labels) next

unfoldable pub Linked : List ℕ → List ℕ → Type 0
Linked labels links = (p : ℕ) → p < length labels → LinkedAt labels p (get_or links p 0)

-- ---- while they are made, from the last polygon down
-- those from p on are linked, and each cell before p has the first polygon from p on of the body that goes by it
pub record Linking (labels : List ℕ) (from p : ℕ) (work : List ℕ) : Type 0 where
  pub linked : (q : ℕ) → p ≤ q → q < length labels → LinkedAt labels q (get_or work (from + q) 0)
  pub open_at : (b : ℕ) → b < p → Next (λ q. eqb (get_or labels q 0) b) p (length labels) (get_or work (from + b) 0)

-- ---- the links of a part stand from `from` on
pub record Links (at : Regions) (words : List ℕ) (from : ℕ) (work : List ℕ) : Type 0 where
  pub room : from + at.polygons ≤ length work
  pub low : at.bodies ≡ true → Low (part 0 at.polygons words)
  pub linked : at.bodies ≡ true → Linked (part 0 at.polygons words) (part from (from + at.polygons) work)

-- ---- marks on faces
-- the rank of each face: no two share one
pub record Ranks (ranks : List ℕ) : Type 0 where
  pub low : (f : ℕ) → f < length ranks → get_or ranks f 0 < length ranks
  pub few : length ranks ≤ 1024
  pub apart : (f g : ℕ) → f < length ranks → g < length ranks → get_or ranks f 0 ≡ get_or ranks g 0 → f ≡ g

-- the faces that pass the test are marked at their ranks, the others as they were
pub record MarksBy (ranks : List ℕ) (test : ℕ → Bool) (old new : List ℕ) : Type 0 where
  pub each : (f : ℕ) → f < length ranks → get_or new (get_or ranks f 0) 0 ≡ cond (test f) (suc f) (get_or old (get_or ranks f 0) 0)
  pub long : length new ≡ length old

-- ---- tests of a face
unfoldable pub is_same_of : ℕ → ℕ → Bool
is_same_of f g = eqb g f

-- the same, where `on` holds
unfoldable pub is_same_if : Bool → ℕ → ℕ → Bool
is_same_if on f g = on && eqb g f

unfoldable pub is_either : ℕ → ℕ → ℕ → Bool
is_either a b g = eqb g a || eqb g b

unfoldable pub is_flagged : List ℕ → ℕ → Bool
is_flagged flags g = eqb (get_or flags g 0) 1

unfoldable pub is_of_body : List ℕ → List ℕ → ℕ → ℕ → Bool
is_of_body labels faces b g = some_below (length labels) (λ p. eqb (get_or faces p 0) g && eqb (get_or labels p 0) b)

-- ---- the marks as a list
-- a mark is a face's number and one more, or 0 for none
pub record MarksFit (marks : List ℕ) (m : ℕ) : Type 0 where
  pub long : m ≤ length marks
  pub each : (r : ℕ) → r < m → get_or marks r 0 ≤ m

-- the ids of the marked faces of ranks below m
unfoldable pub marked_ids : Part → List ℕ → ℕ → List FaceId
marked_ids t marks zero = []
marked_ids t marks (suc r) = marked_ids t marks r ++ cond (eqb (get_or marks r 0) 0) [] (id_of t (get_or marks r 0 - 1) ∷ [])

-- ---- which faces a flaw names, by the cells of the scratch
-- faces that it names itself are there
unfoldable pub Fits : ℕ → Named → Type 0
Fits m NoFace = Unit {0}
Fits m (One f) = f < m
Fits m (Two f g) = (f < m) × (g < m)
Fits m Off = Unit {0}
Fits m Hanging = Unit {0}
Fits m (Body p) = Unit {0}

unfoldable pub FitsEach : ℕ → List ℕ → List Float → ℕ → Type 0
FitsEach m cells numbers n = (6 * n ≤ length cells) × (3 * n ≤ length numbers) × ((k : ℕ) → k < n → Fits m (named_at cells numbers k))

-- the cells of a part of m faces: their ranks, and the face of each polygon
pub record Cells (at : Regions) (m : ℕ) (words : List ℕ) : Type 0 where
  pub laid : Laid at
  pub room : at.words ≤ length words
  pub few : m ≤ at.polygons
  pub ranks : Ranks (part at.ranks (at.ranks + m) words)
  pub faces : (p : ℕ) → p < at.polygons → get_or words (at.faces + p) 0 < m

-- face f has the flag that its rule left
unfoldable pub has_flag : List ℕ → Regions → ℕ → Bool
has_flag words at f = eqb (get_or words (at.order + f) 0) 1

-- face f has a polygon of the body that goes by b
unfoldable pub is_in_body : List ℕ → Regions → ℕ → ℕ → Bool
is_in_body words at b f = some_below at.polygons (λ p. eqb (get_or words (at.faces + p) 0) f && eqb (get_or words p 0) b)

unfoldable pub names_in : List ℕ → Regions → Named → ℕ → Bool
names_in words at NoFace f = false
names_in words at (One a) f = is_same_of a f
names_in words at (Two a b) f = is_either a b f
names_in words at Off f = has_flag words at f
names_in words at Hanging f = has_flag words at f
names_in words at (Body p) f = is_in_body words at p f

-- fault j is on the line of fault i and names face f
unfoldable pub is_named : List ℕ → List ℕ → Regions → List ℕ → List Float → ℕ → ℕ → ℕ → Bool
is_named work words at cells numbers i j f = eqb (get_or work (4 * j + 1) 0) i && names_in words at (named_at cells numbers j) f

-- some fault below n is, and does
unfoldable pub is_named_below : List ℕ → List ℕ → Regions → List ℕ → List Float → ℕ → ℕ → ℕ → Bool
is_named_below work words at cells numbers i n f = some_below n (λ j. is_named work words at cells numbers i j f)

-- ---- what printing the faces of a line starts from
-- the scratch tells the faces that are found from the part: the flags that the rule left, or the bodies
unfoldable pub Told : Part → Regions → List ℕ → Named → Type 0
Told t at words NoFace = Unit {0}
Told t at words (One f) = Unit {0}
Told t at words (Two f g) = Unit {0}
Told t at words Off = OffFaces t at words
Told t at words Hanging = Marks t (lean_of_word t) at words
Told t at words (Body p) = at.bodies ≡ true

-- the body of a part with the ranks of its faces, its faults as rows, and what the scratch tells of their faces
pub record Kept (s words : List ℕ) (given : Listing) (cells : List ℕ) (numbers : List Float) : Type 0 where
  pub placed : Placed s given.at
  pub room : given.at.words ≤ length words
  pub body : Words (part_of s) given.at words
  pub ranked : Ranked (part_of s) given.at words
  pub faces : given.faces ≡ faces_of (part_of s)
  pub rows : Rows s cells numbers given.faults
  pub told : (k : ℕ) → k < given.faults → Told (part_of s) given.at words (named_at cells numbers k)

-- and which faults share a line; after their cells the links of the bodies' polygons
pub record Ready (s words : List ℕ) (given : Listing) (work cells : List ℕ) (numbers : List Float) : Type 0 where
  pub kept : Kept s words given cells numbers
  pub long : 4 * given.faults ≤ length work
  pub merged : Merged (part_of s) cells numbers work given.faults
  pub links : Links given.at words (4 * given.faults) work

-- ---- beside Text.antt
-- an id after k others: 44 is the comma
unfoldable pub next_text : ℕ → FaceId → List ℕ
next_text k a = cond (eqb k 0) (id_text a) (44 ∷ id_text a)
