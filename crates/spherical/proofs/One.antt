-- One times a value of binary32 is that value, a NaN, an infinity and a zero of either sign among them. Assumes nothing.
use mathlib.Core.Path.{◌≡◌, refl, sym, ap, ◌∙◌, subst}
use Prim.Native.Nat.{ℕ, zero, suc, ◌+◌, ◌-◌, ◌*◌, ◌/◌, ◌%◌, ◌^◌, ◌≤◌, ◌<◌}
use native.Mathlib.Nat.{le_trans, le_of_suc-le-suc, lt_of_not-le, lt_of_lt_of_le, lt_irrefl}
use native.Mathlib.Nat.{zero-mul, one-mul, mul-one, mul_assoc, mul_right_comm, mul-div_cancel}
use mathlib.Core.Bool.{Bool, true, false, ◌&&◌}
use lib.Dec.{T, ltb, leb, eqb, leb→le, lit<}
use lib.IntN.{ℤ, pos, negsuc}
use lib.Pow.{pow-add, pow_mono, pow-lt}
use lib.Ieee as Ieee
use lib.Ieee.{Float, nan, inf, fin, binary32, up, down, round, fits, of_bits}
use lib.Ieee.Bits.{of_bits-to_bits}
use lib.Ieee.Digits.{back}
use lib.Ieee.Exact.{HasValue, round_exact}
use lib.Ieee.Fits.{round-fits, down_pos, and_l, and_r}
use lib.Ieee.Nearest.{div_same}
use Rattle.sqrt.proofs.Units.{digits, units_lt, pattern_of, to_bits_units}
use Rattle.math_functions.specs.Float.{◌⊗◌, one}

-- a finite value that fits is a whole number of the format's smallest values
units : (e : ℤ) → down e ≤ 2 ^ 149 → (j : ℕ) × (up e * 2 ^ 149 ≡ 2 ^ j * down e)
units (pos a) h = (a + 149, sym (pow-add 2 a 149) ∙ sym (mul-one (2 ^ (a + 149))))
units (negsuc a) h =
    let below : 2 ^ 149 < 2 ^ 150 = pow-lt {i = 149} {j = 150} (lit< tt) in
    let l : suc a ≤ 149 =
    le_of_suc-le-suc (lt_of_not-le (λ (g : 150 ≤ suc a). lt_irrefl (2 ^ 149) (lt_of_lt_of_le below (le_trans (pow_mono g) h)))) in
    (149 - suc a, one-mul (2 ^ 149) ∙ ap (λ (x : ℕ). 2 ^ x) (sym (back 149 (suc a) l)) ∙ pow-add 2 (149 - suc a) (suc a))

low_enough : (s : Bool) (m : ℕ) (e : ℤ) → T (fits binary32 (fin s (suc m) e)) → down e ≤ 2 ^ 149
unfolding fits
low_enough s m e h =
    let A = eqb (suc m % 2) 1 in
    let B = ltb (suc m) (2 ^ 24) in
    let C = leb (down e) (2 ^ 149) in
    let D = ltb (suc m * up e) (2 ^ 128 * down e) in
    leb→le (down e) (2 ^ 149) (and_r (A && B) C (and_l (A && B && C) D h))

round_value : (s : Bool) (m : ℕ) (e : ℤ) → T (fits binary32 (fin s m e)) → HasValue (round binary32 s (m * up e) (down e)) s (m * up e) (down e)
round_value s zero e h =
    round_exact binary32 s (zero * up e) (down e) 0 0 (down_pos e) (lit< tt) (lit< tt)
    (ap (λ (x : ℕ). x * 2 ^ 149) (zero-mul (up e)) ∙ zero-mul (2 ^ 149) ∙ sym (zero-mul (down e)))
round_value s (suc m) e h =
    let u = units e (low_enough s m e h) in
    let is : suc m * up e * 2 ^ 149 ≡ suc m * 2 ^ u.0 * down e =
    mul_assoc (suc m) (up e) (2 ^ 149) ∙ ap (λ (x : ℕ). suc m * x) u.1 ∙ sym (mul_assoc (suc m) (2 ^ u.0) (down e)) in
    round_exact binary32 s (suc m * up e) (down e) (suc m) u.0 (down_pos e) (digits s m e h).few
    (subst (λ (x : ℕ). x < 2 ^ 277) (ap (λ (x : ℕ). x / down e) is ∙ mul-div_cancel (suc m * 2 ^ u.0) (down_pos e)) (units_lt s m e h))
    is

-- a value that fits is rounded to itself: of the values that fit, one alone has its sign and its size
rounded : (s : Bool) (m : ℕ) (e : ℤ) → T (fits binary32 (fin s m e)) → round binary32 s (m * up e) (down e) ≡ fin s m e
rounded s m e h = go (round binary32 s (m * up e) (down e)) (round-fits binary32 s (m * up e) (down e)) (round_value s m e h)
  where
    go : (y : Float) → T (fits binary32 y) → HasValue y s (m * up e) (down e) → y ≡ fin s m e
    go nan k v = elim v [ ]
    go (inf _) k v = elim v [ ]
    go (fin t n g) k v =
        let same : n * up g * 2 ^ 149 / down g ≡ m * up e * 2 ^ 149 / down e =
        div_same (n * up g * 2 ^ 149) (down g) (m * up e * 2 ^ 149) (down e) (down_pos g) (down_pos e)
        (mul_right_comm (n * up g) (2 ^ 149) (down e) ∙ ap (λ (x : ℕ). x * 2 ^ 149) v.1 ∙ mul_right_comm (m * up e) (down g) (2 ^ 149)) in
        sym (of_bits-to_bits binary32 (fin t n g) k)
        ∙ ap (of_bits binary32) (to_bits_units t n g ∙ (λ i. pattern_of (v.0 i) (same i)) ∙ sym (to_bits_units s m e))
        ∙ of_bits-to_bits binary32 (fin s m e) h

pub one_times : (x : Float) → fits binary32 x ≡ true → one ⊗ x ≡ x
unfolding Ieee.mul Ieee.of_bits
one_times x h = go x (subst T (sym h) tt)
  where
    go : (x : Float) → T (fits binary32 x) → one ⊗ x ≡ x
    go nan t = refl
    go (inf true) t = refl
    go (inf false) t = refl
    go (fin true m e) t = (λ i. round binary32 true (one-mul (m * up e) i) (one-mul (down e) i)) ∙ rounded true m e t
    go (fin false m e) t = (λ i. round binary32 false (one-mul (m * up e) i) (one-mul (down e) i)) ∙ rounded false m e t
