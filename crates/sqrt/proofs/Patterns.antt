-- The bit patterns of the numbers of binary32 that are not negative: what number each stands for, and which pattern a number of 24 digits has. Assumes nothing.
use Rattle.std.proofs.Common.{◌≡◌, ℕ, zero, suc, ◌+◌, ◌*◌, ◌/◌, ◌%◌, ◌^◌, ◌<◌, ◌≤◌, Bool, false, cond, T, eqb, ltb, leb, sym, refl, ap, ◌∙◌, subst}
use Rattle.std.proofs.Common.{lt_of_lt_of_le, mod-eq_of_lt, zero-lt-suc, div-lt_iff_lt-mul, mul-pos, pow-suc, mul-one, not-le_of_lt, arith, eqb→eq}
use Rattle.std.proofs.Common.{lt→ltb, leb→le, pow_pos, pow_mono, shl_lt}
use lib.Dec.{not_T}
use lib.Count.{count_trailing_zeros, under}
use lib.Ieee.{Float, nan, inf, fin, binary32, odd, units, minus, of_fields, of_bits}
use lib.Ieee.Bits.{is_true, is_false, cond_no}
use lib.Ieee.Exact.{HasValue, odd_sign}
use lib.Ieee.Positive.{positive, positive_of_value}
use Rattle.sqrt.specs.Nearest.{in_units}
use Rattle.sqrt.proofs.Units.{value_units}

-- ---- reading a pattern: the number that its exponent field x and its digits t stand for, in units of 2 ^ -149
abbrev pub units_in : ℕ → ℕ → ℕ
units_in zero t = t
units_in (suc x) t = (2 ^ 23 + t) * 2 ^ x

abbrev units_of : ℕ → ℕ
units_of b = units_in (b / 2 ^ 23) (b % 2 ^ 23)

of_bits_is : (b : ℕ) → of_bits binary32 b ≡ of_fields binary32 (leb 0x8000_0000 b) (b % 0x8000_0000 / 2 ^ 23) (b % 2 ^ 23)
unfolding of_bits
of_bits_is b = refl

sign_clear : (b : ℕ) → b < 0x8000_0000 → of_bits binary32 b ≡ of_fields binary32 false (b / 2 ^ 23) (b % 2 ^ 23)
sign_clear b u =
    of_bits_is b
    ∙ ap (λ (s : Bool). of_fields binary32 s (b % 0x8000_0000 / 2 ^ 23) (b % 2 ^ 23))
    (is_false (leb 0x8000_0000 b) (not_T (leb 0x8000_0000 b) (λ (t : T (leb 0x8000_0000 b)). not-le_of_lt u (leb→le 0x8000_0000 b t))))
    ∙ ap (λ (x : ℕ). of_fields binary32 false (x / 2 ^ 23) (b % 2 ^ 23)) (mod-eq_of_lt u)

at_zero : (s : Bool) (t : ℕ) → of_fields binary32 s 0 t ≡ odd 24 s t 0 149
unfolding of_fields
at_zero s t = refl

differ : (x : ℕ) → suc x < 255 → suc x ≡ 255 → ⊥
differ x h e = omega arith

under_ones : (s : Bool) (t x : ℕ) → suc x < 255 → of_fields binary32 s (suc x) t ≡ odd 24 s (2 ^ 23 + t) x 149
unfolding of_fields
under_ones s t x h =
    cond_no (eqb (suc x) 255) (cond (eqb t 0) (inf s) nan) (odd 24 s (2 ^ 23 + t) x 149)
    (not_T (eqb (suc x) 255) (λ (u : T (eqb (suc x) 255)). differ x h (eqb→eq (suc x) 255 u)))

fields_value : (x t : ℕ) → x < 255 → HasValue (of_fields binary32 false x t) false (units_in x t) (2 ^ 149)
fields_value zero t h =
    subst (λ (v : Float). HasValue v false t (2 ^ 149)) (sym (at_zero false t))
    (subst (λ (a : ℕ). HasValue (odd 24 false t 0 149) false a (2 ^ 149)) (mul-one t) (odd_sign 24 false t 0 149))
fields_value (suc x) t h =
    subst (λ (v : Float). HasValue v false ((2 ^ 23 + t) * 2 ^ x) (2 ^ 149)) (sym (under_ones false t x h)) (odd_sign 24 false (2 ^ 23 + t) x 149)

small : (b : ℕ) → b < 0x7f80_0000 → b < 0x8000_0000
small b h = omega arith

field_lt : (b : ℕ) → b < 0x7f80_0000 → b / 2 ^ 23 < 255
field_lt b h = omega arith

bits_value : (b : ℕ) → b < 0x7f80_0000 → HasValue (of_bits binary32 b) false (units_of b) (2 ^ 149)
bits_value b h =
    subst (λ (v : Float). HasValue v false (units_of b) (2 ^ 149)) (sym (sign_clear b (small b h)))
    (fields_value (b / 2 ^ 23) (b % 2 ^ 23) (field_lt b h))

pub bits_units : (b : ℕ) → b < 0x7f80_0000 → in_units (of_bits binary32 b) ≡ units_in (b / 2 ^ 23) (b % 2 ^ 23)
bits_units b h = value_units (of_bits binary32 b) false (units_of b) (bits_value b h)

-- that number is above 0
fields_pos : (x t : ℕ) → (x ≡ 0 → 0 < t) → 0 < units_in x t
fields_pos zero t h = h refl
fields_pos (suc x) t h = mul-pos {m = 2 ^ 23 + t} {n = 2 ^ x} (omega arith) (pow_pos x)

pub bits_positive : (b : ℕ) → 0 < b → b < 0x7f80_0000 → T (positive (of_bits binary32 b))
bits_positive b p h = positive_of_value (of_bits binary32 b) (units_of b) (2 ^ 149) (bits_value b h) (fields_pos (b / 2 ^ 23) (b % 2 ^ 23) (rest b p))
  where
    rest : (b : ℕ) → 0 < b → b / 2 ^ 23 ≡ 0 → 0 < b % 2 ^ 23
    rest b h e = omega arith

-- ---- writing a number of 24 digits
tz_more : (d q : ℕ) → 0 < q → q < 2 ^ d → count_trailing_zeros (suc d) q ≡ count_trailing_zeros d q
unfolding count_trailing_zeros
tz_more zero q p h = omega arith
tz_more (suc d) q p h = go (q % 2) refl (λ g. tz_more d (q / 2) g ((div-lt_iff_lt-mul (zero-lt-suc 1)).1 (subst (λ (x : ℕ). q < x) (pow-suc 2 d) h)))
  where
    half_pos : (q : ℕ) → 0 < q → q % 2 ≡ 0 → 0 < q / 2
    half_pos q h e = omega arith

    go : (r : ℕ) → q % 2 ≡ r → (0 < q / 2 → count_trailing_zeros (suc d) (q / 2) ≡ count_trailing_zeros d (q / 2))
        → under r (count_trailing_zeros (suc d) (q / 2)) ≡ under r (count_trailing_zeros d (q / 2))
    go zero e ih = ap suc (ih (half_pos q p e))
    go (suc r) e ih = refl

odd_more : (q k : ℕ) → 0 < q → q < 2 ^ 24 → odd 25 false q k 149 ≡ odd 24 false q k 149
unfolding odd
odd_more zero k p h = refl
odd_more (suc q) k p h = ap (λ (t : ℕ). fin false (suc q / 2 ^ t) (minus (k + t) 149)) (tz_more 24 (suc q) p h)

units_is : (q k : ℕ) → q * 2 ^ k < 2 ^ 277 → units binary32 false q k ≡ odd 25 false q k 149
unfolding units
units_is q k h = ap (λ (b : Bool). cond b (odd 25 false q k 149) (inf false)) (is_true (ltb (q * 2 ^ k) (2 ^ 277)) (lt→ltb (q * 2 ^ k) (2 ^ 277) h))

the_field : (k r : ℕ) → 2 ^ 23 ≤ r → r < 2 ^ 24 → (k * 2 ^ 23 + r) / 2 ^ 23 ≡ suc k
the_field k r lo hi = omega arith

the_digits : (k r : ℕ) → 2 ^ 23 ≤ r → r < 2 ^ 24 → 2 ^ 23 + (k * 2 ^ 23 + r) % 2 ^ 23 ≡ r
the_digits k r lo hi = omega arith

pub units_bits : (k r : ℕ) → k < 254 → 2 ^ 23 ≤ r → r < 2 ^ 24 → of_bits binary32 (k * 2 ^ 23 + r) ≡ units binary32 false r k
units_bits k r K lo hi =
    sign_clear (k * 2 ^ 23 + r) (omega arith)
    ∙ ap (λ (x : ℕ). of_fields binary32 false x ((k * 2 ^ 23 + r) % 2 ^ 23)) (the_field k r lo hi)
    ∙ under_ones false ((k * 2 ^ 23 + r) % 2 ^ 23) k (omega arith)
    ∙ ap (λ (x : ℕ). odd 24 false x k 149) (the_digits k r lo hi)
    ∙ sym (odd_more r k (omega arith) hi)
    ∙ sym (units_is r k (lt_of_lt_of_le (shl_lt 24 k hi) (pow_mono {i = 24 + k} {j = 277} (omega arith))))
