-- `sqrt` where no root is taken, from the float's bits: at a NaN, at the zeros, at the infinities and below zero. Assumes nothing.
use Rattle.std.proofs.Common.{◌≡◌, ℕ, zero, suc, ◌⊎◌, inl, inr, ◌+◌, ◌-◌, ◌*◌, ◌/◌, ◌^◌, ◌<◌, ◌≤◌, Bool, true, false, T, ℤ, sym, refl, ap, ◌∙◌, lt_irrefl}
use Rattle.std.proofs.Common.{arith, pow_pos}
use lib.Ieee.{Float, nan, inf, fin, binary32, size, of_bits, to_bits, fits, is_nan}
use lib.Ieee.Bits.{of_bits-to_bits}
use lib.Ieee.Digits.{size-le}
use lib.Ieee.Fits.{kept-lt}
use Rattle.sqrt.specs.Sqrt.{sqrt}
use Rattle.sqrt.specs.Nearest.{in_units}
use Rattle.sqrt.proofs.Units.{zero_units, pattern_of, to_bits_units, units_lt}
use Rattle.sqrt.proofs.Nans.{a_nan}
use Rattle.sqrt.proofs.Special.{sqrt_nan}

pub at_nan : (x : Float) → is_nan x ≡ true → x ≡ sqrt x
at_nan x h = let e = a_nan x h in e ∙ sym (ap sqrt e ∙ sqrt_nan)

-- ---- the zeros and +infinity are their own roots
own_root : (x : Float) (b : ℕ) → T (fits binary32 x) → to_bits binary32 x ≡ b → of_bits binary32 b ≡ sqrt (of_bits binary32 b) → x ≡ sqrt x
own_root x b F e h = let r : x ≡ of_bits binary32 b = sym (of_bits-to_bits binary32 x F) ∙ ap (of_bits binary32) e in r ∙ h ∙ ap sqrt (sym r)

pub at_own_root : (x : Float) → T (fits binary32 x) → (to_bits binary32 x ≡ 0) ⊎ ((to_bits binary32 x ≡ 0x7f80_0000) ⊎ (to_bits binary32 x ≡ 0x8000_0000))
    → x ≡ sqrt x
unfolding sqrt of_bits
at_own_root x F (inl e) = own_root x 0 F e refl
at_own_root x F (inr (inl e)) = own_root x 0x7f80_0000 F e refl
at_own_root x F (inr (inr e)) = own_root x 0x8000_0000 F e refl

-- ---- any other pattern above the infinity's is a NaN's or has the sign
pattern_zero : (s : Bool) (e : ℤ) → to_bits binary32 (fin s 0 e) ≡ pattern_of s 0
pattern_zero s e = to_bits_units s 0 e ∙ ap (pattern_of s) (zero_units s e)

-- a positive finite number's pattern is below the infinity's
pattern_lt : (n : ℕ) → n < 2 ^ 277 → pattern_of false n < 0x7f80_0000
pattern_lt n h = small (size n) (n / 2 ^ (size n - 24)) (size-le n 277 h) (kept-lt 24 n)
  where
    small : (z t : ℕ) → z ≤ 277 → t < 2 ^ 24 → 0 + (z - 24) * 2 ^ 23 + t < 0x7f80_0000
    small z t h k = omega arith

not_above : (a b : ℕ) → a ≡ b → b < 0x7f80_0000 → 0x7f80_0000 < a → ⊥
not_above a b e h l = omega arith

nan_above : (x : Float) → T (fits binary32 x) → 0x7f80_0000 < to_bits binary32 x → (to_bits binary32 x ≡ 0x8000_0000 → ⊥) → sqrt x ≡ nan
unfolding sqrt to_bits
nan_above nan F l n = refl
nan_above (inf true) F l n = refl
nan_above (inf false) F l n = absurd (lt_irrefl 0x7f80_0000 l)
nan_above (fin true zero e) F l n = absurd (n (pattern_zero true e))
nan_above (fin false zero e) F l n =
    absurd (not_above (to_bits binary32 (fin false 0 e)) (pattern_of false 0) (pattern_zero false e) (pattern_lt 0 (pow_pos 277)) l)
nan_above (fin true (suc m) e) F l n = refl
nan_above (fin false (suc m) e) F l n =
    let x = fin false (suc m) e in
    absurd (not_above (to_bits binary32 x) (pattern_of false (in_units x)) (to_bits_units false (suc m) e) (pattern_lt (in_units x) (units_lt false m e F)) l)

pub at_negative : (x : Float) → T (fits binary32 x) → 0x7f80_0000 < to_bits binary32 x → (to_bits binary32 x ≡ 0x8000_0000 → ⊥)
    → of_bits binary32 0x7fc0_0000 ≡ sqrt x
unfolding of_bits
at_negative x F l n = sym (nan_above x F l n)
