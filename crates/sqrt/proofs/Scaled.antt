-- What `root_of` gives, from a number N of 47 or 48 digits that is its argument but for a power of 4, and the whole number r nearest to N's root:
-- r * 2 ^ k of the smallest values. Assumes nothing.
use Rattle.std.proofs.Common.{◌≡◌, ℕ, zero, suc, ◌+◌, ◌-◌, ◌*◌, ◌/◌, ◌^◌, ◌<◌, ◌≤◌, Bool, true, false, cond, not, T, ltb, sym, ap, ◌∙◌, le_trans}
use Rattle.std.proofs.Common.{le_of_eq, lt_of_lt_of_le, le_of_suc-le-suc, lt_of_le_of_lt, lt_irrefl, mul-le-mul_right, mul_assoc, suc-mul}
use Rattle.std.proofs.Common.{div-lt_iff_lt-mul, mul-le-mul, le_antisymm, lt_of_mul-lt-mul_right, mul-lt-mul_of_pos_right, mul-pos, lt_of_not-le}
use Rattle.std.proofs.Common.{le-div_iff_mul-le, mul-suc, le_of_mul-le-mul_right, arith, ltb→lt, nltb→le, pow_pos, pow_mono, pow-add}
use lib.Ieee.{binary32, size, units}
use lib.Ieee.Digits.{size-le, size-lt}
use Rattle.sqrt.specs.Sqrt.{isqrt, nearer_of, root_of}
use Rattle.sqrt.specs.Steps.{NearestRoot}
use Rattle.sqrt.proofs.Squares.{root_lt, square_mul, square_next, square_odd}
use Rattle.sqrt.proofs.Isqrt.{isqrt_le, isqrt_lt}
use Rattle.sqrt.proofs.Rounding.{root_of_is}

no_less : (n r s : ℕ) → NearestRoot n r → NearestRoot n s → r < s → ⊥
no_less n r zero h k l = omega arith
no_less n r (suc t) h k l =
    let a : r * suc r ≤ t * suc t = mul-le-mul (le_of_suc-le-suc l) l in
    let b : r * suc r ≡ r * r + r = mul-suc r r in
    let c : suc t * suc t ≡ t * suc t + suc t = suc-mul t (suc t) in
    let d = h.above in
    let e = k.below in
    omega arith

near_unique : (n r s : ℕ) → NearestRoot n r → NearestRoot n s → r ≡ s
near_unique n r s h k =
    le_antisymm (le_of_suc-le-suc (lt_of_not-le (λ (l : suc s ≤ r). no_less n s r k h l)))
    (le_of_suc-le-suc (lt_of_not-le (λ (l : suc r ≤ s). no_less n r s h k l)))

module _ (N k a : ℕ) (lo : 2 ^ 46 ≤ N) (hi : N < 2 ^ 48) (is : a ≡ N * (2 ^ k * 2 ^ k)) where
  -- the root of N has 24 digits
  root_least : 2 ^ 23 ≤ isqrt N
  root_least = le_of_suc-le-suc (root_lt (2 ^ 23) (suc (isqrt N)) (lt_of_le_of_lt lo (isqrt_lt N)))

  root_most : isqrt N < 2 ^ 24
  root_most = root_lt (isqrt N) (2 ^ 24) (lt_of_le_of_lt (isqrt_le N) hi)

  p_pos : 0 < 2 ^ k
  p_pos = pow_pos k

  pp_pos : 0 < 2 ^ k * 2 ^ k
  pp_pos = mul-pos p_pos p_pos

  -- the root of a has them too, and k more
  over : isqrt N * 2 ^ k ≤ isqrt a
  over =
      le_of_suc-le-suc (root_lt (isqrt N * 2 ^ k) (suc (isqrt a))
      (lt_of_le_of_lt (le_trans (le_of_eq (square_mul (isqrt N) (2 ^ k))) (le_trans (mul-le-mul_right (2 ^ k * 2 ^ k) (isqrt_le N)) (le_of_eq (sym is))))
      (isqrt_lt a)))

  under : isqrt a < suc (isqrt N) * 2 ^ k
  under =
      root_lt (isqrt a) (suc (isqrt N) * 2 ^ k)
      (lt_of_le_of_lt (le_trans (isqrt_le a) (le_of_eq is))
      (lt_of_lt_of_le (mul-lt-mul_of_pos_right (isqrt_lt N) pp_pos) (le_of_eq (sym (square_mul (suc (isqrt N)) (2 ^ k))))))

  kept : isqrt a / 2 ^ k ≡ isqrt N
  kept = le_antisymm (le_of_suc-le-suc ((div-lt_iff_lt-mul p_pos).1 under)) ((le-div_iff_mul-le p_pos).1 over)

  dropped : size (isqrt a) - 24 ≡ k
  dropped = count (size (isqrt a)) at_most at_least
    where
      at_most : size (isqrt a) ≤ 24 + k
      at_most = size-le (isqrt a) (24 + k) (lt_of_lt_of_le under (le_trans (mul-le-mul_right (2 ^ k) root_most) (le_of_eq (sym (pow-add 2 24 k)))))

      at_least : 23 + k < size (isqrt a)
      at_least =
          lt_of_not-le (λ (g : size (isqrt a) ≤ 23 + k).
          lt_irrefl (isqrt a)
          (lt_of_lt_of_le (size-lt (isqrt a))
          (le_trans (pow_mono g) (le_trans (le_of_eq (pow-add 2 23 k)) (le_trans (mul-le-mul_right (2 ^ k) root_least) over)))))

      count : (z : ℕ) → z ≤ 24 + k → 23 + k < z → z - 24 ≡ k
      count z g h = omega arith

  choice : (r : ℕ) → NearestRoot N r → nearer_of a k (isqrt N) ≡ r
  choice r near = go (ltb (m * m) (4 * a)) (ltb→lt (m * m) (4 * a)) (nltb→le (m * m) (4 * a))
    where
      q : ℕ
      q = isqrt N

      m : ℕ
      m = (2 * q + 1) * 2 ^ k

      pp : ℕ
      pp = 2 ^ k * 2 ^ k

      left : m * m ≡ (4 * (q * q + q) + 1) * pp
      left = square_mul (2 * q + 1) (2 ^ k) ∙ ap (λ (x : ℕ). x * pp) (square_odd q)

      right : 4 * a ≡ 4 * N * pp
      right = ap (λ (x : ℕ). 4 * x) is ∙ sym (mul_assoc 4 N pp)

      more : m * m < 4 * a → NearestRoot N (suc q)
      more l =
          let b : 4 * (q * q + q) + 1 < 4 * N = lt_of_mul-lt-mul_right pp (lt_of_le_of_lt (le_of_eq (sym left)) (lt_of_lt_of_le l (le_of_eq right))) in
          let n = square_next q in
          let t : N < suc q * suc q = isqrt_lt N in
          record { below = omega arith; above = omega arith }

      same : 4 * a ≤ m * m → NearestRoot N q
      same l =
          let b : 4 * N ≤ 4 * (q * q + q) + 1 = le_of_mul-le-mul_right (le_trans (le_of_eq (sym right)) (le_trans l (le_of_eq left))) pp_pos in
          let t : q * q ≤ N = isqrt_le N in
          let u : 2 ^ 23 ≤ q = root_least in
          record { below = omega arith; above = omega arith }

      go : (b : Bool) → (T b → m * m < 4 * a) → (T (not b) → 4 * a ≤ m * m) → cond b (suc q) q ≡ r
      go true g h = near_unique N (suc q) r (more (g tt)) near
      go false g h = near_unique N q r (same (h tt)) near

pub root_of_near : (N k n r : ℕ) → 2 ^ 46 ≤ N → N < 2 ^ 48 → n * 2 ^ 149 ≡ N * (2 ^ k * 2 ^ k) → NearestRoot N r → root_of binary32 n ≡ units binary32 false r k
root_of_near N k n r lo hi is near =
    root_of_is n
    ∙ ap (λ (j : ℕ). units binary32 false (nearer_of (n * 2 ^ 149) j (isqrt (n * 2 ^ 149) / 2 ^ j)) j) (dropped N k (n * 2 ^ 149) lo hi is)
    ∙ ap (λ (q : ℕ). units binary32 false (nearer_of (n * 2 ^ 149) k q) k) (kept N k (n * 2 ^ 149) lo hi is)
    ∙ ap (λ (q : ℕ). units binary32 false q k) (choice N k (n * 2 ^ 149) lo hi is r near)
