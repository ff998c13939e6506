-- Rows that agree in kind, severity, numbers and open edges have one heading, and so one hash and one lowest fault.
use mathlib.Core.Path.{◌≡◌, refl, sym, ap, ap₂, subst, ◌∙◌}
use mathlib.Core.Bool.{Bool, true, false, ◌&&◌, cond}
use mathlib.Core.List.{List}
use Prim.Native.Nat.{ℕ, ◌+◌, ◌*◌, ◌-◌, ◌%◌, ◌≤◌, ◌<◌}
use native.Mathlib.Nat.{mod-lt}
use native.Mathlib.Omega.{arith}
use lib.Dec.{T, eqb}
use lib.ListN.{get_or, set, length-set}
use lib.Seq.{get_or-set_other}
use lib.Ieee.{Float, binary64, fits, of_bits, to_bits}
use lib.Ieee.Bits.{of_bits-to_bits}
use borrow.Author.Tests.{eqb-true}
use Rattle.num_float.proofs.Tests.{and_left, and_right}
use Rattle.file_part.specs.Part.{Part}
use Rattle.fault_row.specs.declared.row.FaultRow.{FaultRow}
use Rattle.fault_row.specs.declared.flaw.Flaw.{Flaw}
use Rattle.fault_row.specs.Fault.{Heading}
use Rattle.fault_row.specs.Row.{row, row_at_of}
use Rattle.fault_row.specs.declared.flaw.Flaw.TheVariants.{NotClosed}
use Rattle.fault_row.specs.Flaw.{not_closed, row_of, flaw_of}
use Rattle.fault_text.specs.Told.{told}
use Rattle.fault_merge.specs.Hash.{hash_of}
use Rattle.fault_merge.specs.Rows.{heading_at}
use Rattle.fault_merge.specs.Merged.{lead_in, Hashes, Merged}
use Rattle.fault_merge.specs.Work.{Front, SameRow}
use Rattle.fault_merge.proofs.LeadLaws.{lead_like}

-- ---- rows
pub bits_same : (x y : Float) (m n : ℕ) → T (fits binary64 x) → T (fits binary64 y) → m ≡ to_bits binary64 x → n ≡ to_bits binary64 y → eqb m n ≡ true → x ≡ y
bits_same x y m n f g d e h =
    sym (of_bits-to_bits binary64 x f) ∙ ap (λ (b : ℕ). of_bits binary64 b) (sym d ∙ eqb-true m n h ∙ e) ∙ of_bits-to_bits binary64 y g

-- a heading is made from kind, severity and numbers, and that of open edges from a; not from faces or the count
module _ (t : Part) where
  abbrev head : Flaw → Heading
  head f = (told t f).heading

  module _ (r : FaultRow) (edges : ℕ) (same : r.kind ≡ not_closed → r.a ≡ edges) where
    abbrev Keeps : Flaw → Type 0
    Keeps f = r ≡ row_of f

    either : (b : Bool) (f f' g g' : Flaw) → head f ≡ head f' → (Keeps g → head g ≡ head g') → Keeps (cond b f g) → head (cond b f g) ≡ head (cond b f' g')
    either true f f' g g' p q h = p
    either false f f' g g' p q h = q h

    open_edges : Keeps (NotClosed r.a) → head (NotClosed r.a) ≡ head (NotClosed edges)
    unfolding row_of
    open_edges h = ap (λ (n : ℕ). head (NotClosed n)) (same (ap (λ (w : FaultRow). w.kind) h))

    heading_bare : Keeps (flaw_of r) → head (flaw_of r) ≡ head (flaw_of (row r.kind r.severity 1 edges 0 0 r.x r.y r.z))
    unfolding flaw_of told
    heading_bare =
        either (eqb r.kind 1) _ _ _ _ refl
        (either (eqb r.kind 2) _ _ _ _ refl
        (either (eqb r.kind 3) _ _ _ _ refl
        (either (eqb r.kind 4) _ _ _ _ refl
        (either (eqb r.kind 5) _ _ _ _ refl
        (either (eqb r.kind 6) _ _ _ _ refl
        (either (eqb r.kind 7) _ _ _ _ refl
        (either (eqb r.kind 8) _ _ _ _ refl
        (either (eqb r.kind 9) _ _ _ _ refl
        (either (eqb r.kind 10) _ _ _ _ refl
        (either (eqb r.kind 11) _ _ _ _ refl
        (either (eqb r.kind 12) _ _ _ _ refl
        (either (eqb r.kind 13) _ _ _ _ refl
        (either (eqb r.kind 14) _ _ _ _ refl
        (either (eqb r.kind 15) _ _ _ _ refl
        (either (eqb r.kind 17) _ _ _ _ refl
        (either (eqb r.kind 18) _ _ _ _ refl
        (either (eqb r.kind 19) _ _ _ _ refl
        (either (eqb r.kind 20) _ _ _ _ refl
        (either (eqb r.kind 21) _ _ _ _ refl
        (either (eqb r.kind 22) _ _ _ _ refl
        (either (eqb r.kind 23) _ _ _ _ refl
        (either (eqb r.kind 24) _ _ _ _ refl open_edges))))))))))))))))))))))

  pub heading_alike : (r s : FaultRow) → r ≡ row_of (flaw_of r) → s ≡ row_of (flaw_of s) → SameRow r s → head (flaw_of r) ≡ head (flaw_of s)
  heading_alike r s p q e =
      heading_bare r s.a e.edges p ∙ ap₂ (λ (n m : ℕ). head (flaw_of (row n m 1 s.a 0 0 r.x r.y r.z))) e.kind e.severity
      ∙ ap₂ (λ (a b : Float). head (flaw_of (row s.kind s.severity 1 s.a 0 0 a b r.z))) e.x e.y
      ∙ ap (λ (c : Float). head (flaw_of (row s.kind s.severity 1 s.a 0 0 s.x s.y c))) e.z ∙ sym (heading_bare s s.a (λ k. refl) q)

-- w tells that a agrees, b, c and d that the numbers do
pub row_same : (r s : FaultRow) (w b c d : Bool) → (w ≡ true → r.kind ≡ not_closed → r.a ≡ s.a) → (b ≡ true → r.x ≡ s.x) → (c ≡ true → r.y ≡ s.y) →
    (d ≡ true → r.z ≡ s.z) → (((eqb r.kind s.kind && eqb r.severity s.severity) && w) && ((b && c) && d)) ≡ true → SameRow r s
row_same r s w b c d a e f g h =
    let fields : ((eqb r.kind s.kind && eqb r.severity s.severity) && w) ≡ true = and_left ((eqb r.kind s.kind && eqb r.severity s.severity) && w) ((b && c) && d) h in
    let heads : (eqb r.kind s.kind && eqb r.severity s.severity) ≡ true = and_left (eqb r.kind s.kind && eqb r.severity s.severity) w fields in
    let three : ((b && c) && d) ≡ true = and_right ((eqb r.kind s.kind && eqb r.severity s.severity) && w) ((b && c) && d) h in
    let two : (b && c) ≡ true = and_left (b && c) d three in
    record {
      kind = eqb-true _ _ (and_left (eqb r.kind s.kind) (eqb r.severity s.severity) heads);
      severity = eqb-true _ _ (and_right (eqb r.kind s.kind) (eqb r.severity s.severity) heads);
      edges = a (and_right (eqb r.kind s.kind && eqb r.severity s.severity) w fields);
      x = e (and_left b c two);
      y = f (and_right b c two);
      z = g (and_right (b && c) d three);
    }

pub rows_as : (q w r s : FaultRow) → q ≡ r → w ≡ s → SameRow q w → SameRow r s
rows_as q w r s e d m = subst (λ (x : FaultRow). SameRow x s) e (subst (λ (x : FaultRow). SameRow q x) d m)

-- ---- faults
module _ (t : Part) (cells work : List ℕ) (numbers : List Float) (i j : ℕ) (before : Merged t cells numbers work i) (low : j < i)
    (kept : (k : ℕ) → k < i + 1 → row_at_of cells numbers k ≡ row_of (flaw_of (row_at_of cells numbers k))) (same : SameRow (row_at_of cells numbers j) (row_at_of cells numbers i)) where
  headings : heading_at t cells numbers j ≡ heading_at t cells numbers i
  unfolding heading_at
  headings = heading_alike t (row_at_of cells numbers j) (row_at_of cells numbers i) (kept j (omega (arith, low))) (kept i (omega arith)) same

  pub known_hash : get_or work (4 * j) 0 ≡ hash_of (heading_at t cells numbers i).text
  unfolding Hashes
  known_hash = before.hashes j low ∙ ap (λ (h : Heading). hash_of h.text) headings

  pub known_lead : (k : ℕ) → k ≡ get_or work (4 * j + 1) 0 → k ≡ lead_in t cells numbers i
  known_lead k e = e ∙ before.leads j low ∙ lead_like t cells numbers j i headings

-- ---- cells past those of the faults
pub front_none : (from : ℕ) (l : List ℕ) → Front from l l
front_none from l = record { same = λ k h. refl; long = refl }

pub front_then : (from : ℕ) (a b c : List ℕ) → Front from a b → Front from b c → Front from a c
front_then from a b c x y = record { same = λ k h. y.same k h ∙ x.same k h; long = y.long ∙ x.long }

pub front_set : (from k v : ℕ) (a b : List ℕ) → Front from a b → from ≤ k → Front from a (set b k v)
front_set from k v a b x l =
    record { same = λ i h. get_or-set_other b k i v 0 (λ e. absurd (omega (arith, e, h, l))) ∙ x.same i h; long = length-set b k v ∙ x.long }

pub merged_front : (t : Part) (cells : List ℕ) (numbers : List Float) (old new : List ℕ) (n from : ℕ) → 4 * n ≤ from → Merged t cells numbers old n → Front from old new →
    Merged t cells numbers new n
unfolding Hashes
merged_front t cells numbers old new n from l m f =
    record {
      hashes = λ j h. f.same (4 * j) (omega (arith, h, l)) ∙ m.hashes j h;
      leads = λ j h. f.same (4 * j + 1) (omega (arith, h, l)) ∙ m.leads j h;
      totals = λ j h e. f.same (4 * j + 2) (omega (arith, h, l)) ∙ m.totals j h e;
      members = λ j h e. f.same (4 * j + 3) (omega (arith, h, l)) ∙ m.members j h e;
    }

-- a remainder by the number of cells
pub rest_low : (x n end : ℕ) → end < n → x % (n - end) < n - end
rest_low x n end l = mod-lt x (omega (arith, l))
