-- `isqrt n` is the largest number whose square is at most n, and the only one with n from its square up to the next. Assumes nothing.
use Rattle.std.proofs.Common.{◌≡◌, ℕ, zero, suc, ◌+◌, ◌*◌, ◌/◌, ◌^◌, ◌<◌, ◌≤◌, Bool, true, false, cond, not, T, leb, subst, zero-le}
use Rattle.std.proofs.Common.{lt_of_lt_of_le, le_of_suc-le-suc, le-add_right, lt_of_le_of_lt, le_antisymm, arith, leb→le, pow_mono, shr_lt}
use lib.Dec.{nleb→lt}
use lib.Ieee.{size}
use lib.Ieee.Digits.{size-lt}
use Rattle.sqrt.specs.Sqrt.{one_more, root_below, isqrt}
use Rattle.sqrt.specs.Claims.{Root, IsqrtRoot, RootUnique}
use Rattle.sqrt.proofs.Squares.{root_lt, square_double}

pub root_unique : RootUnique
root_unique n r s h k =
    le_antisymm (le_of_suc-le-suc (root_lt r (suc s) (lt_of_le_of_lt h.0 k.1))) (le_of_suc-le-suc (root_lt s (suc r) (lt_of_le_of_lt k.0 h.1)))

step : (n r : ℕ) → Root (n / 4) r → Root n (one_more n (2 * r))
step n r h = go (leb (suc (2 * r) * suc (2 * r)) n) (leb→le (suc (2 * r) * suc (2 * r)) n) (nleb→lt (suc (2 * r) * suc (2 * r)) n)
  where
    below : 2 * r * (2 * r) ≤ n
    below = let e = square_double r in let l = h.0 in omega arith

    above : n < suc (suc (2 * r)) * suc (suc (2 * r))
    above =
        let e : suc (suc (2 * r)) * suc (suc (2 * r)) ≡ 4 * (suc r * suc r) = grind arith in
        let l = h.1 in
        omega arith

    go : (b : Bool) → (T b → suc (2 * r) * suc (2 * r) ≤ n) → (T (not b) → n < suc (2 * r) * suc (2 * r)) → Root n (cond b (suc (2 * r)) (2 * r))
    go true p q = (p tt, above)
    go false p q = (below, q tt)

root_below_root : (d n : ℕ) → n < 2 ^ (d + d) → Root n (root_below d n)
unfolding root_below
root_below_root zero n h = (zero-le, h)
root_below_root (suc d) n h = step n (root_below d (n / 4)) (root_below_root d (n / 4) (shr_lt (d + d) 2 (subst (λ (x : ℕ). n < 2 ^ x) (more d) h)))
  where
    more : (d : ℕ) → suc d + suc d ≡ d + d + 2
    more d = omega arith

pub isqrt_root : IsqrtRoot
unfolding isqrt
isqrt_root n = root_below_root (size n) n (lt_of_lt_of_le (size-lt n) (pow_mono (le-add_right (size n) (size n))))

pub isqrt_le : (n : ℕ) → isqrt n * isqrt n ≤ n
isqrt_le n = (isqrt_root n).0

pub isqrt_lt : (n : ℕ) → n < suc (isqrt n) * suc (isqrt n)
isqrt_lt n = (isqrt_root n).1
