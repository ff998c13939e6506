-- An f64's bit pattern taken apart: its exponent field and its fraction field give its size, and what the size is in digits and a shift.
use mathlib.Core.Path.{◌≡◌, refl, sym, ap, ◌∙◌, subst}
use mathlib.Core.Bool.{Bool, true, false, not, cond, true≢false}
use Prim.Native.Nat.{ℕ, zero, suc, ◌+◌, ◌-◌, ◌*◌, ◌/◌, ◌%◌, ◌^◌, ◌≤◌, ◌<◌}
use native.Mathlib.Nat.{mod-lt, le-add_right, zero-mul, mul_assoc, mul_right_comm, eq_of_mul-eq-mul_right, sub-add_cancel, lt_irrefl}
use native.Mathlib.Omega.{arith}
use lib.Dec.{T, leb, eqb, lit<}
use lib.Pow.{pow_pos, pow-add, field}
use lib.Bits.{bit_and, bit_or, and_mask, or_shifted_r}
use lib.Ieee.{Float, nan, inf, fin, binary64, odd, lt, fits, is_nan, of_fields, of_bits, to_bits}
use lib.Ieee.Fits.{eq→eqb}
use lib.Ieee.Bits.{of_bits-to_bits}
use lib.Ieee.Exact.{odd_sign}
use lib.Ieee.Scale.{finite}
use lib.Ieee.Positive.{num, den}
use Rattle.num_float.proofs.Rounding.{value_cross}
use Rattle.num_real.specs.Bits.{Decomposed}

-- ---- finite, infinite, NaN
pub finite→no_nan : (x : Float) → T (finite x) → T (not (is_nan x))
unfolding is_nan
finite→no_nan nan p = absurd p
finite→no_nan (inf s) p = tt
finite→no_nan (fin s m e) p = tt

-- what lies between the infinities is finite
pub between→finite : (x : Float) → lt x (inf false) ≡ true → lt (inf true) x ≡ true → T (finite x)
unfolding lt
between→finite nan h k = absurd (true≢false (sym h))
between→finite (inf true) h k = absurd (true≢false (sym k))
between→finite (inf false) h k = absurd (true≢false (sym h))
between→finite (fin s m e) h k = tt

-- what does not has no size
pub not_below→no_size : (x : Float) → lt x (inf false) ≡ false → num x ≡ 0
unfolding lt
not_below→no_size nan h = refl
not_below→no_size (inf s) h = refl
not_below→no_size (fin s m e) h = absurd (true≢false h)

pub not_above→no_size : (x : Float) → lt (inf true) x ≡ false → num x ≡ 0
unfolding lt
not_above→no_size nan h = refl
not_above→no_size (inf s) h = refl
not_above→no_size (fin s m e) h = absurd (true≢false h)

pub no_size→decomposed : (x : Float) → num x ≡ 0 → Decomposed x 0 0
no_size→decomposed x e = record {
  value = ap (λ (n : ℕ). n * 2 ^ 1074) e ∙ sym (zero-mul (den x));
  few = lit< tt;
  leading = λ z. absurd (lt_irrefl 0 z);
  low = lit< tt;
}

-- ---- the size that two fields stand for: without a leading digit where the exponent field is 0, and with one otherwise
abbrev FieldsSize : ℕ → ℕ → Float → Type 0
FieldsSize zero fraction x = num x * 2 ^ 1074 ≡ fraction * 2 ^ 0 * den x
FieldsSize (suc j) fraction x = (num x * 2 ^ 1074 ≡ (2 ^ 52 + fraction) * 2 ^ j * den x) × (j < 2046)

-- an exponent field of all ones is that of an infinity or a NaN
finite→not_ones : (a b s : Bool) (v : Float) → T (finite (cond a (cond b (inf s) nan) v)) → T (not a)
finite→not_ones true true s v p = absurd p
finite→not_ones true false s v p = absurd p
finite→not_ones false b s v p = tt

cond_not : (a : Bool) (u v : Float) → T (not a) → cond a u v ≡ v
cond_not true u v n = absurd n
cond_not false u v n = refl

not_ones→lt : (a : Bool) (j : ℕ) → (suc j ≡ 2047 → T a) → T (not a) → suc j < 2048 → j < 2046
not_ones→lt true j h n l = absurd n
not_ones→lt false j h n l = go j h l
  where
    go : (j : ℕ) → (suc j ≡ 2047 → ⊥) → suc j < 2048 → j < 2046
    go j h l = omega arith

fields_size : (s : Bool) (exponent fraction : ℕ) → exponent < 2048 → T (finite (of_fields binary64 s exponent fraction)) → FieldsSize exponent fraction (of_fields binary64 s exponent fraction)
unfolding of_fields
fields_size s zero t l p = value_cross (odd 53 s t 0 1074) s (t * 2 ^ 0) (2 ^ 1074) (odd_sign 53 s t 0 1074)
fields_size s (suc j) t l p =
    let v = odd 53 s (2 ^ 52 + t) j 1074 in
    let u = cond (eqb t 0) (inf s) nan in
    let n : T (not (eqb (suc j) 2047)) = finite→not_ones (eqb (suc j) 2047) (eqb t 0) s v p in
    let is : cond (eqb (suc j) 2047) u v ≡ v = cond_not (eqb (suc j) 2047) u v n in (
      subst (λ (k : Float). num k * 2 ^ 1074 ≡ (2 ^ 52 + t) * 2 ^ j * den k) (sym is)
          (value_cross v s ((2 ^ 52 + t) * 2 ^ j) (2 ^ 1074) (odd_sign 53 s (2 ^ 52 + t) j 1074)),
      not_ones→lt (eqb (suc j) 2047) j eq→eqb n l,
    )

-- ---- from the two fields to digits and a shift
zero_exponent : (k fraction : ℕ) (x : Float) → fraction < 2 ^ 52 → FieldsSize k fraction x → k ≡ 0 → Decomposed x fraction 0
zero_exponent zero t x h s e = record { value = s; few = go t h; leading = λ z. absurd (lt_irrefl 0 z); low = lit< tt }
  where
    go : (t : ℕ) → t < 2 ^ 52 → t < 2 ^ 53
    go t h = omega arith
zero_exponent (suc j) t x h s e = absurd (go j e)
  where
    go : (j : ℕ) → suc j ≡ 0 → ⊥
    go j e = omega arith

some_exponent : (k fraction : ℕ) (x : Float) → fraction < 2 ^ 52 → FieldsSize k fraction x → (k ≡ 0 → ⊥) → Decomposed x (2 ^ 52 + fraction) (k - 1)
some_exponent zero t x h s e = absurd (e refl)
some_exponent (suc j) t x h s e =
    subst (λ (u : ℕ). Decomposed x (2 ^ 52 + t) u) (sym (less_one j))
    (record { value = s.0; few = go t h; leading = λ z. le-add_right (2 ^ 52) t; low = s.1 })
  where
    less_one : (j : ℕ) → suc j - 1 ≡ j
    less_one j = omega arith

    go : (t : ℕ) → t < 2 ^ 52 → 2 ^ 52 + t < 2 ^ 53
    go t h = omega arith

-- ---- the fields of a finite x, by the code's shifts and masks
module _ (x : Float) (held : T (fits binary64 x)) (is_finite : T (finite x)) where
  abbrev bits : ℕ
  bits = to_bits binary64 x

  abbrev exponent : ℕ
  exponent = bit_and (bits / 2 ^ 52) (2 ^ 11 - 1)

  abbrev fraction : ℕ
  fraction = bits % 2 ^ 52

  exponent_is : bits % 2 ^ 63 / 2 ^ 52 ≡ exponent
  exponent_is = field bits 11 52 ∙ sym (and_mask (bits / 2 ^ 52) 11)

  exponent_lt : exponent < 2048
  exponent_lt = subst (λ (z : ℕ). z < 2048) (sym (and_mask (bits / 2 ^ 52) 11)) (mod-lt (bits / 2 ^ 52) (pow_pos 11))

  fraction_lt : fraction < 2 ^ 52
  fraction_lt = mod-lt bits (pow_pos 52)

  fields_are : of_fields binary64 (leb (2 ^ 63) bits) exponent fraction ≡ x
  fields_are = ap (λ (z : ℕ). of_fields binary64 (leb (2 ^ 63) bits) z fraction) (sym exponent_is) ∙ sym by_fields ∙ of_bits-to_bits binary64 x held
    where
      by_fields : of_bits binary64 bits ≡ of_fields binary64 (leb (2 ^ 63) bits) (bits % 2 ^ 63 / 2 ^ 52) fraction
      by_fields = unfold of_bits in refl

  size : FieldsSize exponent fraction x
  size =
      subst (λ (y : Float). FieldsSize exponent fraction y) fields_are
      (fields_size (leb (2 ^ 63) bits) exponent fraction exponent_lt (subst (λ (y : Float). T (finite y)) (sym fields_are) is_finite))

  pub subnormal : exponent ≡ 0 → Decomposed x (bit_and bits (2 ^ 52 - 1)) 0
  subnormal e = subst (λ (d : ℕ). Decomposed x d 0) (sym (and_mask bits 52)) (zero_exponent exponent fraction x fraction_lt size e)

  pub normal : (exponent ≡ 0 → ⊥) → Decomposed x (bit_or (bit_and bits (2 ^ 52 - 1)) (2 ^ 52)) (exponent - 1)
  normal e = subst (λ (d : ℕ). Decomposed x d (exponent - 1)) (sym digits_are) (some_exponent exponent fraction x fraction_lt size e)
    where
      digits_are : bit_or (bit_and bits (2 ^ 52 - 1)) (2 ^ 52) ≡ 2 ^ 52 + fraction
      digits_are = ap (λ (z : ℕ). bit_or z (2 ^ 52)) (and_mask bits 52) ∙ or_shifted_r 1 52 fraction fraction_lt

-- ---- the size of a decomposed x, as a whole number or as a fraction of its digits over a power of two
module _ (x : Float) (digits shift : ℕ) (D : Decomposed x digits shift) where
  pub whole_size : 1074 ≤ shift → num x ≡ digits * 2 ^ (shift - 1074) * den x
  whole_size h =
      eq_of_mul-eq-mul_right (2 ^ 1074) (pow_pos 1074) (num x) (digits * 2 ^ (shift - 1074) * den x)
      (D.value
      ∙ ap (λ (k : ℕ). digits * 2 ^ k * den x) (sym (sub-add_cancel h))
      ∙ ap (λ (k : ℕ). digits * k * den x) (pow-add 2 (shift - 1074) 1074)
      ∙ ap (λ (k : ℕ). k * den x) (sym (mul_assoc digits (2 ^ (shift - 1074)) (2 ^ 1074)))
      ∙ mul_right_comm (digits * 2 ^ (shift - 1074)) (2 ^ 1074) (den x))

  pub fraction_size : shift ≤ 1074 → num x * 2 ^ (1074 - shift) ≡ digits * den x
  fraction_size h =
      eq_of_mul-eq-mul_right (2 ^ shift) (pow_pos shift) (num x * 2 ^ (1074 - shift)) (digits * den x)
      (mul_assoc (num x) (2 ^ (1074 - shift)) (2 ^ shift)
      ∙ ap (λ (k : ℕ). num x * k) (sym (pow-add 2 (1074 - shift) shift) ∙ ap (λ (k : ℕ). 2 ^ k) (sub-add_cancel h))
      ∙ D.value
      ∙ mul_right_comm digits (2 ^ shift) (den x))
