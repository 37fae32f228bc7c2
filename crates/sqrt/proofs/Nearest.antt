-- `sqrt` rounds to the nearest. For every x of binary32 that is finite and above zero, `sqrt x` is the float that is nearest to the root of x
-- (`sqrt_nearest`), and the only one (`sqrt_only`), so there are no ties. For every x of binary32, `sqrt x` is in binary32 (`sqrt_fits`).
-- Assumes nothing.
use Rattle.std.proofs.Common.{◌≡◌, ℕ, zero, suc, ◌*◌, ◌^◌, ◌<◌, ◌≤◌, Bool, true, false, cond, T, ltb, ℤ, sym, refl, ◌∙◌, subst, lt_of_le_of_lt, lit<, ltb→lt}
use lib.Ieee.{Float, nan, inf, fin, binary32, odd, units, fits}
use lib.Ieee.Exact.{HasValue, units_val}
use lib.Ieee.Fits.{odd-fits, nan-fits, inf-fits}
use lib.Ieee.Positive.{positive}
use Rattle.sqrt.specs.Sqrt.{root_of, sqrt}
use Rattle.sqrt.specs.Nearest.{in_units, Candidate, Nearer, Nearest}
use Rattle.sqrt.specs.Claims.{SqrtFits, SqrtNearest, SqrtFinite, SqrtOnly}
use Rattle.sqrt.proofs.Units.{value_units, value_unsigned, digits, few_digits, units_lt, units_pos, same_units}
use Rattle.sqrt.proofs.Rounding.{nearer_once, nearer_of_nearer, dropped_of, kept_of, rounded_of, root_of_is}
use Rattle.sqrt.proofs.Rounding.{kept_lo, kept_hi, kept_lead, rounded_le, rounded_lt, no_tie}

-- ---- binary32 holds every root of a value that it holds
units_fits : (q k : ℕ) → q ≤ 2 ^ 24 → T (fits binary32 (units binary32 false q k))
unfolding units
units_fits q k a = go (ltb (q * 2 ^ k) (2 ^ 277)) (ltb→lt (q * 2 ^ k) (2 ^ 277))
  where
    go : (b : Bool) → (T b → q * 2 ^ k < 2 ^ 277) → T (fits binary32 (cond b (odd 25 false q k 149) (inf false)))
    go true h = odd-fits binary32 25 false q k (lt_of_le_of_lt a (lit< tt)) a (h tt)
    go false h = inf-fits binary32 false

pub sqrt_fits : SqrtFits
unfolding sqrt
sqrt_fits nan h = nan-fits binary32
sqrt_fits (inf true) h = nan-fits binary32
sqrt_fits (inf false) h = inf-fits binary32 false
sqrt_fits (fin s zero e) h = h
sqrt_fits (fin true (suc m) e) h = nan-fits binary32
sqrt_fits (fin false (suc m) e) h =
    let n = in_units (fin false (suc m) e) in
    subst (λ (v : Float). T (fits binary32 v)) (sym (root_of_is n)) (units_fits (rounded_of n) (dropped_of n) (rounded_le n))

-- ---- above zero the result is finite, and the nearest
pub sqrt_root_of : (x : Float) → T (positive x) → sqrt x ≡ root_of binary32 (in_units x)
unfolding sqrt
sqrt_root_of nan p = absurd p
sqrt_root_of (inf _) p = absurd p
sqrt_root_of (fin true _ e) p = absurd p
sqrt_root_of (fin false zero e) p = absurd p
sqrt_root_of (fin false (suc m) e) p = refl

module _ (m : ℕ) (e : ℤ) (h : T (fits binary32 (fin false (suc m) e))) (p : T (positive (fin false (suc m) e))) where
  abbrev x : Float
  x = fin false (suc m) e

  abbrev n : ℕ
  n = in_units x

  value : HasValue (sqrt x) false (rounded_of n * 2 ^ dropped_of n) (2 ^ 149)
  value =
      subst (λ (v : Float). HasValue v false (rounded_of n * 2 ^ dropped_of n) (2 ^ 149)) (sym (sqrt_root_of x p ∙ root_of_is n))
      (units_val binary32 false (rounded_of n) (dropped_of n) (rounded_lt n (units_lt false m e h)))

  nearer : (y : Float) → Candidate y → Nearer (n * 2 ^ 149) (in_units (sqrt x)) (in_units y)
  nearer nan c = absurd c.1
  nearer (inf s) c = absurd c.1
  nearer (fin true d g) c = absurd c.1
  nearer (fin false d g) c =
      let above = units_pos false m e h in
      let w = digits false m e h in
      let y = few_digits false d g c.0 in
      subst (λ (R : ℕ). Nearer (n * 2 ^ 149) R (in_units (fin false d g))) (sym (value_units (sqrt x) false (rounded_of n * 2 ^ dropped_of n) value))
      (subst (λ (Y : ℕ). Nearer (n * 2 ^ 149) (rounded_of n * 2 ^ dropped_of n) Y) (sym y.3)
      (nearer_of_nearer (n * 2 ^ 149) (dropped_of n) (kept_of n) y.0 y.1 (kept_lo n) (kept_hi n) (kept_lead n above) y.2
      (no_tie n (suc m) w.shift w.odd w.few w.is above)))

  above_zero : Nearest x (sqrt x)
  above_zero = record { candidate = (sqrt_fits x h, value_unsigned (sqrt x) (rounded_of n * 2 ^ dropped_of n) value); nearest = nearer }

pub sqrt_nearest : SqrtNearest
sqrt_nearest nan h p = absurd p
sqrt_nearest (inf _) h p = absurd p
sqrt_nearest (fin true _ e) h p = absurd p
sqrt_nearest (fin false zero e) h p = absurd p
sqrt_nearest (fin false (suc m) e) h p = above_zero m e h p

pub sqrt_finite : SqrtFinite
sqrt_finite x h p = (sqrt_nearest x h p).candidate.1

pub sqrt_only : SqrtOnly
sqrt_only x r h p k =
    let s = sqrt_nearest x h p in
    same_units r (sqrt x) k.candidate.0 s.candidate.0 k.candidate.1 s.candidate.1
    (nearer_once (in_units x * 2 ^ 149) (in_units r) (in_units (sqrt x)) (k.nearest (sqrt x) s.candidate) (s.nearest r k.candidate))
