-- What holds of the leaves for every float, a NaN too: the clamp, and comparisons with zero and with the threshold. Assumes nothing.
use Rattle.std.specs.Prelude.{◌≡◌, ℕ, ◌+◌, ◌*◌, ◌<◌, Bool, true, false, cond, eqb, ltb}
use mathlib.Core.Path.{refl, sym, ap, ◌∙◌}
use mathlib.Core.Bool.{false≢true, and-eq-true_iff}
use native.Mathlib.Omega.{arith}
use lib.Ieee as Ieee
use lib.Ieee.{Float, nan, inf, fin, up, down}
use lib.Ieee.Fits.{down_pos}
use borrow.Author.Tests.{ltb-true, lt-ltb, le-ltb, eqb-true}
use Rattle.math_functions.specs.Float.{lt, gt, eq, zero, threshold}
use Rattle.math_functions.specs.Scalar.{min_float, max_float, clamp_float}

-- ---- the clamp

-- nothing is below a NaN
pub lt_nan : (x : Float) → lt x nan ≡ false
unfolding Ieee.lt
lt_nan nan = refl
lt_nan (inf s) = refl
lt_nan (fin s m e) = refl

-- document 01: `clamp_float` lets a NaN through, whatever the bounds
pub clamp_nan : (lower upper : Float) → clamp_float nan lower upper ≡ nan
unfolding clamp_float Ieee.lt
clamp_nan lower upper = rw (lt_nan upper)

-- and it makes none, not even of a bound that is one
pub clamp_only_nan : (a lower upper : Float) → clamp_float a lower upper ≡ nan → a ≡ nan
unfolding clamp_float Ieee.lt
clamp_only_nan a lower upper = by (lt a lower) (lt upper a) refl refl
  where
    by : (b c : Bool) → lt a lower ≡ b → lt upper a ≡ c → cond b lower (cond c upper a) ≡ nan → a ≡ nan
    by true c p q e = absurd (false≢true (sym (lt_nan a) ∙ ap (lt a) (sym e) ∙ p))
    by false true p q e = absurd (false≢true (ap (λ x. lt x a) (sym e) ∙ q))
    by false false p q e = e

-- a bound that is a NaN bounds nothing: the other one is left
pub clamp_nan_lower : (a upper : Float) → clamp_float a nan upper ≡ min_float upper a
unfolding clamp_float min_float
clamp_nan_lower a upper = rw (lt_nan a)

pub clamp_nan_upper : (a lower : Float) → clamp_float a lower nan ≡ max_float lower a
unfolding clamp_float max_float Ieee.lt
clamp_nan_upper a lower = refl

-- ---- comparisons with zero: what is not above it

pub nan_not_above : gt nan zero ≡ false
nan_not_above = lt_nan zero

-- a zero of either sign compares equal to zero
pub zero_not_above : (x : Float) → eq x zero ≡ true → gt x zero ≡ false
unfolding Ieee.lt Ieee.eq Ieee.of_bits
zero_not_above nan e = absurd (false≢true e)
zero_not_above (inf s) e = absurd (false≢true e)
zero_not_above (fin true m x) e = refl
zero_not_above (fin false m x) e =
    let same = eqb-true (m * up x * 1) (0 * 1 * down x) ((and-eq-true_iff (eqb (m * up x * 1) (0 * 1 * down x)) _).0 e).0 in
    le-ltb (0 * 1 * down x) (m * up x * 1) (omega (arith, same))

pub negative_not_above : (x : Float) → lt x zero ≡ true → gt x zero ≡ false
unfolding Ieee.lt Ieee.of_bits
negative_not_above nan e = absurd (false≢true e)
negative_not_above (inf s) e = rw e
negative_not_above (fin true m x) e = refl
negative_not_above (fin false m x) e = let less = ltb-true (m * up x * 1) (0 * 1 * down x) e in absurd (omega (arith, less))

-- ---- comparisons with the threshold

some_above : (a d : ℕ) → 0 < d → ltb 0 (a + 125 * 1 * d) ≡ true
some_above a d h = lt-ltb 0 (a + 125 * 1 * d) (omega arith)

-- what is negative is below the threshold
pub negative_below_threshold : (x : Float) → lt x zero ≡ true → lt x threshold ≡ true
unfolding Ieee.lt Ieee.of_bits Ieee.mul
negative_below_threshold nan e = e
negative_below_threshold (inf s) e = e
negative_below_threshold (fin true m x) e = some_above _ (down x) (down_pos x)
negative_below_threshold (fin false m x) e = let less = ltb-true (m * up x * 1) (0 * 1 * down x) e in absurd (omega (arith, less))

-- and so not above it
pub negative_not_above_threshold : (x : Float) → lt x zero ≡ true → gt x threshold ≡ false
unfolding Ieee.lt Ieee.of_bits Ieee.mul
negative_not_above_threshold nan e = absurd (false≢true e)
negative_not_above_threshold (inf s) e = rw e
negative_not_above_threshold (fin true m x) e = refl
negative_not_above_threshold (fin false m x) e = let less = ltb-true (m * up x * 1) (0 * 1 * down x) e in absurd (omega (arith, less))

-- the threshold is not above itself, nor is a NaN
pub threshold_not_above : gt threshold threshold ≡ false
unfolding Ieee.lt Ieee.of_bits Ieee.mul
threshold_not_above = refl

pub nan_not_above_threshold : gt nan threshold ≡ false
nan_not_above_threshold = lt_nan threshold

-- a NaN is not below it either
pub nan_not_below_threshold : lt nan threshold ≡ false
unfolding Ieee.lt
nan_not_below_threshold = refl
