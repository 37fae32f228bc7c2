-- From the nearest root of the scaled significand to the pattern of the root. Assumes nothing.
use Rattle.std.proofs.Common.{◌≡◌, ℕ, zero, suc, ◌+◌, ◌-◌, ◌*◌, ◌/◌, ◌%◌, ◌^◌, ◌<◌, ◌≤◌, sym, ap, ◌∙◌, mul-le-mul_right, mul_assoc, mul-le-mul}
use Rattle.std.proofs.Common.{lt_of_not-le, mul_right_comm, arith, pow_pos, pow-add}
use native.Mathlib.Nat.{eq_of_mul-eq-mul_right}
use lib.Ieee.{binary32, of_bits}
use Rattle.sqrt.specs.Sqrt.{sqrt}
use Rattle.sqrt.specs.Nearest.{in_units}
use Rattle.sqrt.specs.Steps.{Unpacks, NearestRoot}
use Rattle.sqrt.proofs.Nearest.{sqrt_root_of}
use Rattle.sqrt.proofs.Scaled.{root_of_near}
use Rattle.sqrt.proofs.Patterns.{bits_positive, units_bits}

-- the nearest root of such an n has 24 digits
near_least : (n r : ℕ) → 2 ^ 46 ≤ n → NearestRoot n r → 2 ^ 23 ≤ r
near_least n r lo h = lt_of_not-le (λ (g : r ≤ 2 ^ 23 - 1). contra g)
  where
    contra : r ≤ 2 ^ 23 - 1 → ⊥
    contra g =
        let l : r * r ≤ (2 ^ 23 - 1) * (2 ^ 23 - 1) = mul-le-mul g g in
        let k = h.above in
        omega arith

near_most : (n r : ℕ) → n ≤ 2 ^ 48 - 2 ^ 24 → NearestRoot n r → r < 2 ^ 24
near_most n r hi h = lt_of_not-le (λ (g : 2 ^ 24 ≤ r). contra g)
  where
    contra : 2 ^ 24 ≤ r → ⊥
    contra g =
        let l : 2 ^ 24 * r ≤ r * r = mul-le-mul_right r g in
        let k = h.below in
        omega arith

-- n is the number that the pattern stands for, but for a power of 4
scaled : (u m e n w k : ℕ) → m * 2 ^ e ≡ u * 2 ^ 24 → n ≡ m * 2 ^ w → w + (k + k) ≡ e + 125 → u * 2 ^ 149 ≡ n * (2 ^ k * 2 ^ k)
scaled u m e n w k v is sum =
    eq_of_mul-eq-mul_right (2 ^ 24) (pow_pos 24) (u * 2 ^ 149) (n * (2 ^ k * 2 ^ k))
    (mul_right_comm u (2 ^ 149) (2 ^ 24)
    ∙ ap (λ (x : ℕ). x * 2 ^ 149) (sym v)
    ∙ mul_assoc m (2 ^ e) (2 ^ 149)
    ∙ ap (λ (x : ℕ). m * x) (sym (pow-add 2 e 149)
    ∙ ap (λ (x : ℕ). 2 ^ x) (places w (k + k) e sum)
    ∙ pow-add 2 (w + (k + k)) 24
    ∙ ap (λ (x : ℕ). x * 2 ^ 24) (pow-add 2 w (k + k) ∙ ap (λ (x : ℕ). 2 ^ w * x) (pow-add 2 k k)))
    ∙ sym (mul_assoc m (2 ^ w * (2 ^ k * 2 ^ k)) (2 ^ 24))
    ∙ ap (λ (x : ℕ). x * 2 ^ 24) (sym (mul_assoc m (2 ^ w) (2 ^ k * 2 ^ k)) ∙ ap (λ (x : ℕ). x * (2 ^ k * 2 ^ k)) (sym is)))
  where
    places : (w d e : ℕ) → w + d ≡ e + 125 → e + 149 ≡ w + d + 24
    places w d e h = omega arith

root_bits_at : (b m e n r w k : ℕ) → 0 < b → b < 0x7f80_0000 → Unpacks b m e → n ≡ m * 2 ^ w → w + (k + k) ≡ e + 125
    → 2 ^ 46 ≤ n → n ≤ 2 ^ 48 - 2 ^ 24 → k < 253 → NearestRoot n r
    → (of_bits binary32 (k * 2 ^ 23 + r) ≡ sqrt (of_bits binary32 b)) × (k * 2 ^ 23 + r < 0x7f80_0000)
root_bits_at b m e n r w k pos fin sp is sum lo hi K near =
    let least : 2 ^ 23 ≤ r = near_least n r lo near in
    let most : r < 2 ^ 24 = near_most n r hi near in (
      units_bits k r (omega arith) least most
          ∙ sym (root_of_near n k (in_units (of_bits binary32 b)) r lo (omega arith) (scaled (in_units (of_bits binary32 b)) m e n w k sp.value is sum) near)
          ∙ sym (sqrt_root_of (of_bits binary32 b) (bits_positive b pos fin)),
      omega arith,
    )

-- 23 places, and one more where e is odd: a number of 47 or 48 digits
range : (m p : ℕ) → p < 2 → 2 ^ 23 ≤ m → m < 2 ^ 24 → (2 ^ 46 ≤ m * 2 ^ (23 + p)) × (m * 2 ^ (23 + p) ≤ 2 ^ 48 - 2 ^ 24)
range m zero h lo hi = (omega arith, omega arith)
range m (suc zero) h lo hi = (omega arith, omega arith)
range m (suc (suc p)) h lo hi = omega arith

pub scaled_range : (m e n : ℕ) → 2 ^ 23 ≤ m → m < 2 ^ 24 → n ≡ m * 2 ^ (23 + e % 2) → (2 ^ 46 ≤ n) × (n ≤ 2 ^ 48 - 2 ^ 24)
scaled_range m e n lo hi is = let x = range m (e % 2) (omega arith) lo hi in (omega arith, omega arith)

pub root_bits_is : (b m x n r : ℕ) → 0 < b → b < 0x7f80_0000 → 102 ≤ x → Unpacks b m (x - 102) → n ≡ m * 2 ^ (23 + x % 2) → NearestRoot n r
    → (of_bits binary32 (x / 2 * 2 ^ 23 + r) ≡ sqrt (of_bits binary32 b)) × (x / 2 * 2 ^ 23 + r < 0x7f80_0000)
root_bits_is b m x n r pos fin lo sp is near =
    let y = scaled_range m x n sp.least sp.most is in
    let d = sp.exponent in
    root_bits_at b m (x - 102) n r (23 + x % 2) (x / 2) pos fin sp is (omega arith) y.0 y.1 (omega arith) near
