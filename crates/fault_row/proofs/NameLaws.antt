-- The ranks of the rules are the byte order of their names, and the ranks of the severities.
use mathlib.Core.Path.{◌≡◌, refl, sym, ap, ap₂, ◌∙◌}
use mathlib.Core.Bool.{Bool, true, false, not, cond, true≢false}
use mathlib.Core.List.{List, [], ◌∷◌}
use Prim.Native.Nat.{ℕ, ◌<◌}
use native.Mathlib.Omega.{arith}
use lib.Dec.{ltb}
use lib.ListN.{get_or}
use denote.Enum.Declared.{tag_of}
use Rattle.list_laws.specs.Below.{all_below}
use Rattle.list_laws.proofs.Below.{all_each}
use Rattle.fault_row.specs.declared.fault.Severity.{Severity}
use Rattle.fault_row.specs.declared.fault.Severity.TheVariants.{Error, Warning, Note}
use Rattle.fault_row.specs.declared.fault.Rule.{Rule}
use Rattle.fault_row.specs.declared.fault.Rule.TheVariants.{DeepHole, DeepInsideCorner, EnclosedHollow, FewLayers, HoleTooClose, Material, NoMaterial, NotClosed, NotOneThickness, Overhang, SharpInsideCorner, ShortFlange, SmallHole, ThinWall, ThinnerThanALayer, ThinnerThanTheNozzle, TightBend, TightInsideRadius}
use Rattle.fault_row.specs.contracts.fault.Severity.{the_type as the_severity}
use Rattle.fault_row.specs.contracts.fault.Rule.{the_type as the_rule}
use Rattle.fault_row.specs.Names.{severity_rank, severity_of, rule_rank, rule_name, bytes_before}

-- ---- severities
pub severity_of_lem : (s : Severity) → severity_of (severity_rank s) ≡ s
unfolding severity_of severity_rank
severity_of_lem Error = refl
severity_of_lem Warning = refl
severity_of_lem Note = refl

-- no two share a rank
pub severity_rank_same : (s t : Severity) → severity_rank s ≡ severity_rank t → s ≡ t
severity_rank_same s t e = sym (severity_of_lem s) ∙ ap severity_of e ∙ severity_of_lem t

pub severity_rank_lt : (s : Severity) → severity_rank s < 3
unfolding severity_rank
severity_rank_lt Error = omega arith
severity_rank_lt Warning = omega arith
severity_rank_lt Note = omega arith

-- the number of its case
pub severity_tag : (s : Severity) → tag_of the_severity s ≡ severity_rank s
unfolding severity_rank
severity_tag Error = refl
severity_tag Warning = refl
severity_tag Note = refl

-- ---- the rule of a rank
rules : List Rule
rules =
    DeepHole ∷ DeepInsideCorner ∷ EnclosedHollow ∷ FewLayers ∷ HoleTooClose ∷ Material ∷ NoMaterial ∷ NotClosed ∷ NotOneThickness ∷ Overhang
    ∷ SharpInsideCorner ∷ ShortFlange ∷ SmallHole ∷ ThinWall ∷ ThinnerThanALayer ∷ ThinnerThanTheNozzle ∷ TightBend ∷ TightInsideRadius ∷ []

at : ℕ → Rule
at r = get_or rules r NotClosed

at_rank : (r : Rule) → at (rule_rank r) ≡ r
unfolding at rules rule_rank
at_rank DeepHole = refl
at_rank DeepInsideCorner = refl
at_rank EnclosedHollow = refl
at_rank FewLayers = refl
at_rank HoleTooClose = refl
at_rank Material = refl
at_rank NoMaterial = refl
at_rank NotClosed = refl
at_rank NotOneThickness = refl
at_rank Overhang = refl
at_rank SharpInsideCorner = refl
at_rank ShortFlange = refl
at_rank SmallHole = refl
at_rank ThinWall = refl
at_rank ThinnerThanALayer = refl
at_rank ThinnerThanTheNozzle = refl
at_rank TightBend = refl
at_rank TightInsideRadius = refl

-- no two share a rank
pub rule_rank_same : (r s : Rule) → rule_rank r ≡ rule_rank s → r ≡ s
rule_rank_same r s e = sym (at_rank r) ∙ ap at e ∙ at_rank s

pub rule_rank_lt : (r : Rule) → rule_rank r < 18
unfolding rule_rank
rule_rank_lt DeepHole = omega arith
rule_rank_lt DeepInsideCorner = omega arith
rule_rank_lt EnclosedHollow = omega arith
rule_rank_lt FewLayers = omega arith
rule_rank_lt HoleTooClose = omega arith
rule_rank_lt Material = omega arith
rule_rank_lt NoMaterial = omega arith
rule_rank_lt NotClosed = omega arith
rule_rank_lt NotOneThickness = omega arith
rule_rank_lt Overhang = omega arith
rule_rank_lt SharpInsideCorner = omega arith
rule_rank_lt ShortFlange = omega arith
rule_rank_lt SmallHole = omega arith
rule_rank_lt ThinWall = omega arith
rule_rank_lt ThinnerThanALayer = omega arith
rule_rank_lt ThinnerThanTheNozzle = omega arith
rule_rank_lt TightBend = omega arith
rule_rank_lt TightInsideRadius = omega arith

-- the number of its case
pub rule_tag : (r : Rule) → tag_of the_rule r ≡ rule_rank r
unfolding rule_rank
rule_tag DeepHole = refl
rule_tag DeepInsideCorner = refl
rule_tag EnclosedHollow = refl
rule_tag FewLayers = refl
rule_tag HoleTooClose = refl
rule_tag Material = refl
rule_tag NoMaterial = refl
rule_tag NotClosed = refl
rule_tag NotOneThickness = refl
rule_tag Overhang = refl
rule_tag SharpInsideCorner = refl
rule_tag ShortFlange = refl
rule_tag SmallHole = refl
rule_tag ThinWall = refl
rule_tag ThinnerThanALayer = refl
rule_tag ThinnerThanTheNozzle = refl
rule_tag TightBend = refl
rule_tag TightInsideRadius = refl

-- ---- their names: one test of all pairs
agree : Bool → Bool → Bool
agree a b = cond a b (not b)

agree_same : (a b : Bool) → agree a b ≡ true → a ≡ b
unfolding agree
agree_same true true e = refl
agree_same true false e = absurd (true≢false (sym e))
agree_same false true e = absurd (true≢false (sym e))
agree_same false false e = refl

abbrev pair : ℕ → ℕ → Bool
pair r s = agree (ltb r s) (bytes_before (rule_name (at r)) (rule_name (at s)))

table : all_below 18 (λ r. all_below 18 (pair r)) ≡ true
unfolding all_below at rules rule_name bytes_before agree
table = refl

pub names_by_bytes : (r s : Rule) → ltb (rule_rank r) (rule_rank s) ≡ bytes_before (rule_name r) (rule_name s)
names_by_bytes r s =
    agree_same _ _ (all_each 18 (pair (rule_rank r)) (all_each 18 (λ r. all_below 18 (pair r)) table (rule_rank r) (rule_rank_lt r)) (rule_rank s) (rule_rank_lt s))
    ∙ ap₂ (λ (x y : Rule). bytes_before (rule_name x) (rule_name y)) (at_rank r) (at_rank s)
