-- What `nearer_of` and `root_of` choose, over whole numbers. Assumes nothing.
use Rattle.std.proofs.Common.{◌≡◌, ℕ, zero, suc, ◌+◌, ◌-◌, ◌*◌, ◌/◌, ◌%◌, ◌^◌, ◌<◌, ◌≤◌, Bool, true, false, cond, not, T, ltb, sym, refl, ap, ◌∙◌}
use Rattle.std.proofs.Common.{le_trans, le_of_eq, le_refl, lt_of_lt_of_le, le_of_suc-le-suc, lt_of_le_of_lt, le_of_lt, add-le-add, lt_irrefl}
use Rattle.std.proofs.Common.{mul-le-mul_right, zero-lt-suc, mul_assoc, lt-suc_self, add-lt-add_of_le_of_lt, mul_comm, div-lt_iff_lt-mul}
use Rattle.std.proofs.Common.{mul-le-mul, add_comm, le_antisymm, lt_of_mul-lt-mul_right, mul-le-mul_left, mul-lt-mul_of_pos_right, pow-suc}
use Rattle.std.proofs.Common.{lt_of_not-le, le-div_iff_mul-le, mul-one, div-mul-le_self, mul_left_comm, arith, lit<, lit≤, ltb→lt, nltb→le, pow_pos}
use Rattle.std.proofs.Common.{pow_mono, pow-add, shl_lt}
use native.Mathlib.Nat.{mul-lt-mul_of_pos_left, eq_of_mul-eq-mul_right}
use native.Mathlib.Nat.{pow-succ'}
use lib.Arith.{lt_of_le-ne}
use lib.Ieee.{binary32, size, units}
use lib.Ieee.Digits.{back, size-lt, size-le, size_reaches}
use lib.Ieee.Fits.{kept-lt}
use Rattle.sqrt.specs.Sqrt.{isqrt, nearer_of, root_of}
use Rattle.sqrt.specs.Nearest.{Nearer}
use Rattle.sqrt.proofs.Squares.{root_lt, square_lt, square_mul, square_odd}
use Rattle.sqrt.proofs.Isqrt.{isqrt_le, isqrt_lt}

-- of two different numbers only one is the nearer
pub nearer_once : (a R Y : ℕ) → Nearer a R Y → Nearer a Y R → R ≡ Y
nearer_once a R Y h k =
    le_antisymm (le_of_suc-le-suc (lt_of_not-le (λ (l : Y < R). contra Y R k h l))) (le_of_suc-le-suc (lt_of_not-le (λ (l : R < Y). contra R Y h k l)))
  where
    contra : (P Q : ℕ) → Nearer a P Q → Nearer a Q P → P < Q → ⊥
    contra P Q g h l = lt_irrefl (4 * a) (lt_of_lt_of_le (g.above l) (le_trans (le_of_eq (ap (λ (x : ℕ). x * x) (add_comm P Q))) (le_of_lt (h.below l))))

not_even : (m n b : ℕ) → m % 2 ≡ 1 → m * 2 ^ 0 ≡ n * 2 ^ suc b → ⊥
not_even m n b o h = contra m (n * 2 ^ b) o (sym (mul-one m) ∙ h ∙ ap (λ (x : ℕ). n * x) (pow-succ' 2 b) ∙ mul_left_comm n 2 (2 ^ b))
  where
    contra : (m t : ℕ) → m % 2 ≡ 1 → m ≡ 2 * t → ⊥
    contra m t o h = omega arith

-- a number is an odd number times a power of 2 in one way
odd_part : (m n a b : ℕ) → m % 2 ≡ 1 → n % 2 ≡ 1 → m * 2 ^ a ≡ n * 2 ^ b → m ≡ n
odd_part m n zero zero o p h = sym (mul-one m) ∙ h ∙ mul-one n
odd_part m n zero (suc b) o p h = absurd (not_even m n b o h)
odd_part m n (suc a) zero o p h = absurd (not_even n m a p (sym h))
odd_part m n (suc a) (suc b) o p h =
    odd_part m n a b o p (eq_of_mul-eq-mul_right 2 (zero-lt-suc 1) (m * 2 ^ a) (n * 2 ^ b)
    (mul_assoc m (2 ^ a) 2 ∙ ap (λ (x : ℕ). m * x) (sym (pow-suc 2 a)) ∙ h ∙ ap (λ (x : ℕ). n * x) (pow-suc 2 b) ∙ sym (mul_assoc n (2 ^ b) 2)))

-- the sum of q and q + 1 times p
middle : (q p : ℕ) → q * p + suc q * p ≡ (2 * q + 1) * p
middle q p = grind arith

square_sum : (x : ℕ) → (x + x) * (x + x) ≡ 4 * (x * x)
square_sum x = grind arith

-- ---- `nearer_of` is nearer to √a than any number of 24 digits times a power of 2, where √a lies between q and q + 1 times 2 ^ k, q has 24 digits
-- and √a is not the middle
module _ (a k q m j : ℕ) (lo : q * 2 ^ k * (q * 2 ^ k) ≤ a) (hi : a < suc q * 2 ^ k * (suc q * 2 ^ k)) (lead : 2 ^ 23 ≤ q) (digits : m < 2 ^ 24)
    (no_tie : (2 * q + 1) * 2 ^ k * ((2 * q + 1) * 2 ^ k) ≡ 4 * a → ⊥) where
  -- from 2 ^ (23 + k) on, a number of 24 digits is a multiple of 2 ^ k
  multiple : 2 ^ 23 * 2 ^ k ≤ m * 2 ^ j → (t : ℕ) × (m * 2 ^ j ≡ t * 2 ^ k)
  multiple h =
      let l : k ≤ j =
      le_of_suc-le-suc (lt_of_not-le (λ (g : suc j ≤ k).
      lt_irrefl (2 ^ 23 * 2 ^ k)
      (lt_of_le_of_lt h (lt_of_lt_of_le (shl_lt 24 j digits) (le_trans (pow_mono {i = 24 + j} {j = 23 + k} (more j k g)) (le_of_eq (pow-add 2 23 k))))))) in
      (m * 2 ^ (j - k), ap (λ (x : ℕ). m * x) (ap (λ (x : ℕ). 2 ^ x) (sym (back j k l)) ∙ pow-add 2 (j - k) k) ∙ sym (mul_assoc m (2 ^ (j - k)) (2 ^ k)))
    where
      more : (j k : ℕ) → suc j ≤ k → 24 + j ≤ 23 + k
      more j k h = omega arith

  -- so none lies between q and q + 1 times 2 ^ k
  down_to : m * 2 ^ j < suc q * 2 ^ k → m * 2 ^ j ≤ q * 2 ^ k
  down_to h = go (ltb (m * 2 ^ j) (2 ^ 23 * 2 ^ k)) (ltb→lt (m * 2 ^ j) (2 ^ 23 * 2 ^ k)) (nltb→le (m * 2 ^ j) (2 ^ 23 * 2 ^ k))
    where
      go : (b : Bool) → (T b → m * 2 ^ j < 2 ^ 23 * 2 ^ k) → (T (not b) → 2 ^ 23 * 2 ^ k ≤ m * 2 ^ j) → m * 2 ^ j ≤ q * 2 ^ k
      go true g l = le_of_lt (lt_of_lt_of_le (g tt) (mul-le-mul_right (2 ^ k) lead))
      go false g l =
          let t = multiple (l tt) in
          le_trans (le_of_eq t.1) (mul-le-mul_right (2 ^ k) (le_of_suc-le-suc (lt_of_mul-lt-mul_right (2 ^ k) (lt_of_le_of_lt (le_of_eq (sym t.1)) h))))

  up_to : q * 2 ^ k < m * 2 ^ j → suc q * 2 ^ k ≤ m * 2 ^ j
  up_to h =
      let t = multiple (le_of_lt (lt_of_le_of_lt (mul-le-mul_right (2 ^ k) lead) h)) in
      le_trans (mul-le-mul_right (2 ^ k) (lt_of_mul-lt-mul_right (2 ^ k) (lt_of_lt_of_le h (le_of_eq t.1)))) (le_of_eq (sym t.1))

  abbrev mid : ℕ
  mid = (2 * q + 1) * 2 ^ k

  pub nearer_of_nearer : Nearer a (nearer_of a k q * 2 ^ k) (m * 2 ^ j)
  nearer_of_nearer = go (ltb (mid * mid) (4 * a)) (ltb→lt (mid * mid) (4 * a)) (nltb→le (mid * mid) (4 * a))
    where
      go : (b : Bool) → (T b → mid * mid < 4 * a) → (T (not b) → 4 * a ≤ mid * mid) → Nearer a (cond b (suc q) q * 2 ^ k) (m * 2 ^ j)
      go true g l = record {
        above = λ h.
            let s : suc q * 2 ^ k + suc q * 2 ^ k ≤ suc q * 2 ^ k + m * 2 ^ j = add-le-add (le_refl (suc q * 2 ^ k)) (le_of_lt h) in
            lt_of_lt_of_le (mul-lt-mul_of_pos_left hi (lit< tt)) (le_trans (le_of_eq (sym (square_sum (suc q * 2 ^ k)))) (mul-le-mul s s));
        below = λ h.
            let s : suc q * 2 ^ k + m * 2 ^ j ≤ mid =
            le_trans (add-le-add (le_refl (suc q * 2 ^ k)) (down_to h))
            (le_of_eq (add_comm (suc q * 2 ^ k) (q * 2 ^ k) ∙ middle q (2 ^ k))) in
            lt_of_le_of_lt (mul-le-mul s s) (g tt);
      }
      go false g l = record {
        above = λ h.
            let s : mid ≤ q * 2 ^ k + m * 2 ^ j = le_trans (le_of_eq (sym (middle q (2 ^ k)))) (add-le-add (le_refl (q * 2 ^ k)) (up_to h)) in
            lt_of_lt_of_le (lt_of_le-ne (l tt) (λ e. no_tie (sym e))) (mul-le-mul s s);
        below = λ h.
            lt_of_lt_of_le (square_lt (q * 2 ^ k + m * 2 ^ j) (q * 2 ^ k + q * 2 ^ k) (add-lt-add_of_le_of_lt (le_refl (q * 2 ^ k)) h))
            (le_trans (le_of_eq (square_sum (q * 2 ^ k))) (mul-le-mul_left 4 lo));
      }

-- ---- the parts of `root_of`, at binary32
module _ (n : ℕ) where
  abbrev pub scaled_of : ℕ
  scaled_of = n * 2 ^ 149

  abbrev pub dropped_of : ℕ
  dropped_of = size (isqrt scaled_of) - 24

  abbrev pub kept_of : ℕ
  kept_of = isqrt scaled_of / 2 ^ dropped_of

  abbrev pub rounded_of : ℕ
  rounded_of = nearer_of scaled_of dropped_of kept_of

  pub root_of_is : root_of binary32 n ≡ units binary32 false rounded_of dropped_of
  unfolding root_of
  root_of_is = refl

  pub kept_lo : kept_of * 2 ^ dropped_of * (kept_of * 2 ^ dropped_of) ≤ scaled_of
  kept_lo = let l = div-mul-le_self (isqrt scaled_of) (2 ^ dropped_of) in le_trans (mul-le-mul l l) (isqrt_le scaled_of)

  pub kept_hi : scaled_of < suc kept_of * 2 ^ dropped_of * (suc kept_of * 2 ^ dropped_of)
  kept_hi =
      let l : isqrt scaled_of < suc kept_of * 2 ^ dropped_of = (div-lt_iff_lt-mul (pow_pos dropped_of)).0 (lt-suc_self kept_of) in
      lt_of_lt_of_le (isqrt_lt scaled_of) (mul-le-mul l l)

  -- 24 digits are kept
  pub kept_lead : 0 < n → 2 ^ 23 ≤ kept_of
  kept_lead p =
      let big : 2 ^ 74 < suc (isqrt scaled_of) =
      root_lt (2 ^ 74) (suc (isqrt scaled_of))
      (lt_of_le_of_lt (le_trans (lit≤ tt) (mul-le-mul_right (2 ^ 149) p)) (isqrt_lt scaled_of)) in
      let many : 74 < size (isqrt scaled_of) =
      lt_of_not-le (λ (g : size (isqrt scaled_of) ≤ 74).
      lt_irrefl (isqrt scaled_of)
      (lt_of_lt_of_le (size-lt (isqrt scaled_of)) (le_trans (pow_mono g) (le_of_suc-le-suc big)))) in
      (le-div_iff_mul-le (pow_pos dropped_of)).1
      (le_trans (le_of_eq (sym (pow-add 2 23 dropped_of)))
      (size_reaches (isqrt scaled_of) (23 + dropped_of) (places (size (isqrt scaled_of)) many)))
    where
      places : (z : ℕ) → 74 < z → 23 + (z - 24) < z
      places z h = omega arith

  pub rounded_le : rounded_of ≤ 2 ^ 24
  rounded_le = go (ltb ((2 * kept_of + 1) * 2 ^ dropped_of * ((2 * kept_of + 1) * 2 ^ dropped_of)) (4 * scaled_of))
    where
      go : (b : Bool) → cond b (suc kept_of) kept_of ≤ 2 ^ 24
      go true = kept-lt 24 (isqrt scaled_of)
      go false = le_of_lt (kept-lt 24 (isqrt scaled_of))

  -- the root of a finite value does not overflow
  pub rounded_lt : n < 2 ^ 277 → rounded_of * 2 ^ dropped_of < 2 ^ 277
  rounded_lt h =
      let small : isqrt scaled_of < 2 ^ 213 =
      root_lt (isqrt scaled_of) (2 ^ 213)
      (lt_of_le_of_lt (isqrt_le scaled_of) (lt_of_lt_of_le (mul-lt-mul_of_pos_right h (pow_pos 149)) (lit≤ tt))) in
      let few : dropped_of ≤ 189 = places (size (isqrt scaled_of)) (size-le (isqrt scaled_of) 213 small) in
      lt_of_le_of_lt (mul-le-mul rounded_le (pow_mono few)) (lit< tt)
    where
      places : (z : ℕ) → z ≤ 213 → z - 24 ≤ 189
      places z h = omega arith

  -- √a is not the middle, for a value of 24 digits: the middle's square has an odd part of more digits
  pub no_tie : (m j : ℕ) → m % 2 ≡ 1 → m < 2 ^ 24 → n ≡ m * 2 ^ j → 0 < n
      → (2 * kept_of + 1) * 2 ^ dropped_of * ((2 * kept_of + 1) * 2 ^ dropped_of) ≡ 4 * scaled_of → ⊥
  no_tie m j o few is p t =
      let q = kept_of in
      let k = dropped_of in
      let left : (2 * q + 1) * 2 ^ k * ((2 * q + 1) * 2 ^ k) ≡ (2 * q + 1) * (2 * q + 1) * 2 ^ (k + k) =
      square_mul (2 * q + 1) (2 ^ k) ∙ ap (λ (x : ℕ). (2 * q + 1) * (2 * q + 1) * x) (sym (pow-add 2 k k)) in
      let right : 4 * scaled_of ≡ m * 2 ^ (j + 151) =
      ap (λ (x : ℕ). 4 * (x * 2 ^ 149)) is
      ∙ mul_comm 4 (m * 2 ^ j * 2 ^ 149)
      ∙ mul_assoc (m * 2 ^ j) (2 ^ 149) 4
      ∙ mul_assoc m (2 ^ j) (2 ^ 151)
      ∙ ap (λ (x : ℕ). m * x) (sym (pow-add 2 j 151)) in
      let e = square_odd q in
      let same : (2 * q + 1) * (2 * q + 1) ≡ m =
      odd_part ((2 * q + 1) * (2 * q + 1)) m (k + k) (j + 151) (odd_is ((2 * q + 1) * (2 * q + 1)) (q * q + q) e) o (sym left ∙ t ∙ right) in
      let lead : 2 ^ 23 ≤ q = kept_lead p in
      let large : 2 ^ 23 * 2 ^ 23 ≤ q * q = mul-le-mul lead lead in
      omega arith
    where
      odd_is : (x y : ℕ) → x ≡ 4 * y + 1 → x % 2 ≡ 1
      odd_is x y h = omega arith
