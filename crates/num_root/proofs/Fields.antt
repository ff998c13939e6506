-- What `root` is of the float that a pattern is read as.
use Rattle.std.proofs.Common.{◌≡◌, ℕ, zero, suc, ◌+◌, ◌-◌, ◌*◌, ◌/◌, ◌%◌, ◌^◌, ◌<◌, ◌≤◌, Bool, true, false, cond, not, T, eqb, leb, sym, refl, ap, ◌∙◌, subst, inl, inr, le_trans, le_of_eq, lt_of_lt_of_le, lt_irrefl, mul-le-mul_right, mod-eq_of_lt, mul_assoc, mul-pos, zero-mul, mul-one, not-le_of_lt, arith, lit≤, le→leb, eqb→eq, pow_pos, pow_mono, pow-add, shl_lt}
use lib.Dec.{not_T}
use lib.Arith.{lt→nleb}
use lib.Bits.{bit_and, and_mask}
use lib.Count.{count_leading_zeros, leading_top}
use lib.Ieee.{Float, nan, inf, fin, binary64, up, odd, round, of_fields, of_bits, to_bits}
use lib.Ieee.Bits.{is_true, is_false, cond_no}
use lib.Ieee.Fits.{down_pos}
use lib.Ieee.Exact.{HasValue, odd_sign}
use Rattle.num_root.specs.Root.{twice_root, root}
use Rattle.num_float.proofs.Tests.{lt_or_ge}
use Rattle.num_root.proofs.Rounded.{one, root_of_value}

lt→neqb : (a b : ℕ) → a < b → T (not (eqb a b))
lt→neqb a b h = not_T (eqb a b) (λ t. lt_irrefl b (subst (λ (x : ℕ). x < b) (eqb→eq a b t) h))

pos→neqb : (t : ℕ) → 0 < t → T (not (eqb t 0))
pos→neqb t h = not_T (eqb t 0) (λ q. lt_irrefl 0 (subst (λ (x : ℕ). 0 < x) (eqb→eq t 0 q) h))

-- ---- the fields of a pattern
read : (s : Bool) (b x t : ℕ) → leb (2 ^ 63) b ≡ s → b % 2 ^ 63 / 2 ^ 52 ≡ x → b % 2 ^ 52 ≡ t → of_bits binary64 b ≡ of_fields binary64 s x t
unfolding of_bits
read s b x t e f g =
    ap (λ (y : Bool). of_fields binary64 y (b % 2 ^ 63 / 2 ^ 52) (b % 2 ^ 52)) e
    ∙ ap (λ (y : ℕ). of_fields binary64 s y (b % 2 ^ 52)) f
    ∙ ap (λ (y : ℕ). of_fields binary64 s x y) g

normal_fields : (s : Bool) (x t : ℕ) → suc x < 2047 → of_fields binary64 s (suc x) t ≡ odd 53 s (2 ^ 52 + t) x 1074
unfolding of_fields
normal_fields s x t h = cond_no (eqb (suc x) 2047) (cond (eqb t 0) (inf s) nan) (odd 53 s (2 ^ 52 + t) x 1074) (lt→neqb (suc x) 2047 h)

subnormal_fields : (s : Bool) (t : ℕ) → of_fields binary64 s 0 t ≡ odd 53 s t 0 1074
unfolding of_fields
subnormal_fields s t = refl

-- ---- a positive normal number
regroup : (q x : ℕ) → q * 2 ^ x * 2 ^ 1074 ≡ q * 2 ^ (x + 1074)
regroup q x = mul_assoc q (2 ^ x) (2 ^ 1074) ∙ ap (λ (y : ℕ). q * y) (sym (pow-add 2 x 1074))

pub normal_root : (b : ℕ) → 2 ^ 52 ≤ b → b < 0x7FF0000000000000
    → root (of_bits binary64 b) ≡ round binary64 false (twice_root ((bit_and b 0xFFFFFFFFFFFFF + 2 ^ 52) * 2 ^ (b / 2 ^ 52 + 1073))) (2 ^ 1075)
normal_root b l h =
    let x = b / 2 ^ 52 - 1 in
    let t = b % 2 ^ 52 in
    let i : of_bits binary64 b ≡ odd 53 false (2 ^ 52 + t) x 1074 =
    read false b (suc x) t (is_false (leb (2 ^ 63) b) (lt→nleb (2 ^ 63) b (omega arith))) (omega arith) refl ∙ normal_fields false x t (omega arith) in
    let v : HasValue (of_bits binary64 b) false ((2 ^ 52 + t) * 2 ^ x) one =
    subst (λ (y : Float). HasValue y false ((2 ^ 52 + t) * 2 ^ x) one) (sym i) (odd_sign 53 false (2 ^ 52 + t) x 1074) in
    let p : 0 < (2 ^ 52 + t) * 2 ^ x = mul-pos (omega arith) (pow_pos x) in
    let q : 2 ^ 52 + t ≡ bit_and b 0xFFFFFFFFFFFFF + 2 ^ 52 = omega (arith, and_mask b 52) in
    let e : x + 1074 ≡ b / 2 ^ 52 + 1073 = omega arith in
    root_of_value (of_bits binary64 b) ((2 ^ 52 + t) * 2 ^ x) p v
    ∙ ap (λ (y : ℕ). round binary64 false (twice_root y) (2 ^ 1075))
    (regroup (2 ^ 52 + t) x ∙ ap (λ (y : ℕ). y * 2 ^ (x + 1074)) q ∙ ap (λ (y : ℕ). (bit_and b 0xFFFFFFFFFFFFF + 2 ^ 52) * 2 ^ y) e)

-- ---- a positive subnormal number, shifted up by n
pub subnormal_root : (b n : ℕ) → 0 < b → b < 2 ^ 52 → n ≤ 1074
    → root (of_bits binary64 b) ≡ round binary64 false (twice_root (b * 2 ^ n * 2 ^ (1074 - n))) (2 ^ 1075)
subnormal_root b n l h k =
    let i : of_bits binary64 b ≡ odd 53 false b 0 1074 =
    read false b 0 b (is_false (leb (2 ^ 63) b) (lt→nleb (2 ^ 63) b (omega arith))) (omega arith) (mod-eq_of_lt h) ∙ subnormal_fields false b in
    let v : HasValue (of_bits binary64 b) false (b * 2 ^ 0) one =
    subst (λ (y : Float). HasValue y false (b * 2 ^ 0) one) (sym i) (odd_sign 53 false b 0 1074) in
    let p : 0 < b * 2 ^ 0 = mul-pos l (pow_pos 0) in
    root_of_value (of_bits binary64 b) (b * 2 ^ 0) p v
    ∙ ap (λ (y : ℕ). round binary64 false (twice_root y) (2 ^ 1075)) (ap (λ (y : ℕ). y * one) (mul-one b) ∙ up_by b n k)
  where
    back : (n : ℕ) → n ≤ 1074 → 1074 ≡ n + (1074 - n)
    back n k = omega arith

    up_by : (b n : ℕ) → n ≤ 1074 → b * one ≡ b * 2 ^ n * 2 ^ (1074 - n)
    up_by b n k = ap (λ (y : ℕ). b * y) (ap (λ (y : ℕ). 2 ^ y) (back n k) ∙ pow-add 2 n (1074 - n)) ∙ sym (mul_assoc b (2 ^ n) (2 ^ (1074 - n)))

-- how far: to 53 digits
pub record Lifted (b z : ℕ) : Type 0 where
  pub least : 11 < z
  pub most : z ≤ 63
  pub low : 2 ^ 52 ≤ b * 2 ^ (z - 11)
  pub high : b * 2 ^ (z - 11) < 2 ^ 53

pub lifted : (b : ℕ) → 0 < b → b < 2 ^ 52 → Lifted b (count_leading_zeros 64 b)
lifted b p h =
    let w = leading_top 64 b p (lt_of_lt_of_le h (lit≤ tt)) in
    go (count_leading_zeros 64 b) w.0 w.1 w.2 w.3
  where
    sum_is : (z j : ℕ) → z + suc j ≡ 64 → j < 52 → j + (z - 11) ≡ 52
    sum_is z j e l = omega arith

    suc_sum : (z j : ℕ) → z + suc j ≡ 64 → j < 52 → suc j + (z - 11) ≡ 53
    suc_sum z j e l = omega arith

    top_at : (j : ℕ) → 2 ^ j ≤ b → j < 52
    top_at j a = elim (lt_or_ge j 52) [
      | inl l ↦ l
      | inr g ↦ absurd (not-le_of_lt h (le_trans (pow_mono g) a))
    ]

    go : (z j : ℕ) → z + suc j ≡ 64 → 2 ^ j ≤ b → b < 2 ^ suc j → Lifted b z
    go z j e a c =
        let l = top_at j a in
        record {
          least = omega arith;
          most = omega arith;
          low = le_trans (le_of_eq (ap (λ (x : ℕ). 2 ^ x) (sym (sum_is z j e l)) ∙ pow-add 2 j (z - 11))) (mul-le-mul_right (2 ^ (z - 11)) a);
          high = lt_of_lt_of_le (shl_lt (suc j) (z - 11) c) (le_of_eq (ap (λ (x : ℕ). 2 ^ x) (suc_sum z j e l)));
        }

pub lifted_shift : (b z : ℕ) → Lifted b z → (b * 2 ^ (z - 11)) % 2 ^ 64 ≡ b * 2 ^ (z - 11)
lifted_shift b z l = mod-eq_of_lt (lt_of_lt_of_le l.high (lit≤ tt))

-- ---- no number, or a negative one
pub negative_root : (x : Float) (n c : ℕ) → 0 < n → 0 < c → HasValue x true n c → root x ≡ nan
unfolding root
negative_root nan n c p q h = absurd h
negative_root (inf s) n c p q h = absurd h
negative_root (fin s zero e) n c p q h = absurd (lt_irrefl 0 (subst (λ (x : ℕ). 0 < x) (sym h.1 ∙ ap (λ (y : ℕ). y * c) (zero-mul (up e)) ∙ zero-mul c) (mul-pos p (down_pos e))))
negative_root (fin true (suc m) e) n c p q h = refl
negative_root (fin false (suc m) e) n c p q h = absurd (subst T (sym h.0) tt)

negative_fields : (x t : ℕ) → 0 < x + t → root (of_fields binary64 true x t) ≡ nan
unfolding of_fields root
negative_fields zero t h = negative_root (odd 53 true t 0 1074) (t * 2 ^ 0) one (mul-pos (omega arith) (pow_pos 0)) (pow_pos 1074) (odd_sign 53 true t 0 1074)
negative_fields (suc x) t h = go (eqb (suc x) 2047) (eqb t 0)
  where
    go : (a b : Bool) → root (cond a (cond b (inf true) nan) (odd 53 true (2 ^ 52 + t) x 1074)) ≡ nan
    go true true = refl
    go true false = refl
    go false b = negative_root (odd 53 true (2 ^ 52 + t) x 1074) ((2 ^ 52 + t) * 2 ^ x) one (mul-pos (omega arith) (pow_pos x)) (pow_pos 1074) (odd_sign 53 true (2 ^ 52 + t) x 1074)

nan_fields : (t : ℕ) → 0 < t → root (of_fields binary64 false 2047 t) ≡ nan
unfolding of_fields root
nan_fields t h = ap (λ (y : Float). root y) (cond_no (eqb t 0) (inf false) nan (pos→neqb t h))

pub no_root : (b : ℕ) → b < 2 ^ 64 → 0x7FF0000000000000 ≤ b → (b ≡ 0x7FF0000000000000 → ⊥) → (b ≡ 2 ^ 63 → ⊥) → root (of_bits binary64 b) ≡ nan
no_root b w l i z = elim (lt_or_ge b (2 ^ 63)) [
  | inl h ↦
      ap (λ (y : Float). root y) (read false b 2047 (b % 2 ^ 52) (is_false (leb (2 ^ 63) b) (lt→nleb (2 ^ 63) b h)) (omega arith) refl)
      ∙ nan_fields (b % 2 ^ 52) (omega arith)
  | inr g ↦
      ap (λ (y : Float). root y) (read true b (b % 2 ^ 63 / 2 ^ 52) (b % 2 ^ 52) (is_true (leb (2 ^ 63) b) (le→leb (2 ^ 63) b g)) refl refl)
      ∙ negative_fields (b % 2 ^ 63 / 2 ^ 52) (b % 2 ^ 52) (omega arith)
]

-- ---- the patterns that come back, and the one NaN
at_inf : ◌≡◌ {A = ℕ} 0x7FF0000000000000 (to_bits binary64 (root (of_bits binary64 0x7FF0000000000000)))
unfolding to_bits root of_bits
at_inf = refl

at_minus_zero : ◌≡◌ {A = ℕ} (2 ^ 63) (to_bits binary64 (root (of_bits binary64 (2 ^ 63))))
unfolding to_bits root of_bits
at_minus_zero = refl

at_zero : ◌≡◌ {A = ℕ} 0 (to_bits binary64 (root (of_bits binary64 0)))
unfolding to_bits root of_bits
at_zero = refl

at_nan : ◌≡◌ {A = ℕ} 0x7FF8000000000000 (to_bits binary64 nan)
unfolding to_bits
at_nan = refl

pub of_inf : (b : ℕ) → b ≡ 0x7FF0000000000000 → b ≡ to_bits binary64 (root (of_bits binary64 b))
of_inf b e = subst (λ (x : ℕ). x ≡ to_bits binary64 (root (of_bits binary64 x))) (sym e) at_inf

pub of_minus_zero : (b : ℕ) → b ≡ 2 ^ 63 → b ≡ to_bits binary64 (root (of_bits binary64 b))
of_minus_zero b e = subst (λ (x : ℕ). x ≡ to_bits binary64 (root (of_bits binary64 x))) (sym e) at_minus_zero

pub of_zero : (b : ℕ) → b ≡ 0 → 0 ≡ to_bits binary64 (root (of_bits binary64 b))
of_zero b e = subst (λ (x : ℕ). 0 ≡ to_bits binary64 (root (of_bits binary64 x))) (sym e) at_zero

pub of_nan : (x : Float) → x ≡ nan → 0x7FF8000000000000 ≡ to_bits binary64 x
of_nan x e = subst (λ (y : Float). 0x7FF8000000000000 ≡ to_bits binary64 y) (sym e) at_nan
