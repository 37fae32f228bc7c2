-- What the kinds' facts lean on: a limit row's impulse is zero or positive and never a NaN, whatever the row is handed; and what a stage leaves of a joint of
-- any kind. Assumes nothing.
use Rattle.std.specs.Prelude.{Option, None, Some}
use mathlib.Core.Path.{◌≡◌, refl}
use mathlib.Core.Bool.{Bool, true, false, cond, ◌||◌}
use Prim.Native.Nat.{ℕ}
use native.Mathlib.Omega.{arith}
use lib.Ieee as Ieee
use lib.Ieee.{Float}
use Rattle.math_functions.specs.declared.types.Vec3.{Vec3}
use Rattle.math_functions.specs.Float.{lt, gt, eq, zero}
use Rattle.math_functions.specs.Scalar.{max_float}
use Rattle.solver.specs.declared.Softness.{Softness}
use Rattle.records.specs.declared.joint.JointUnion.{JointUnion}
use Rattle.records.specs.Joint.{is_some, of_kind}
use Rattle.constraint.specs.declared.velocity.Velocities.{Velocities}
use Rattle.constraint.specs.declared.velocity.InvMasses.{InvMasses}
use Rattle.constraint.specs.declared.soft.SoftBias.{SoftBias}
use Rattle.constraint.specs.declared.angular.TwistLimit.{TwistLimit}
use Rattle.constraint.specs.Soft.{limit_impulse}
use Rattle.constraint.specs.Angular.{is_worked, lower_limit_row, upper_limit_row, twist_limit_rows}
use Rattle.constraint.specs.Claims.{NonNegative, AtMostOne, BothOfKind}

pub max_float_non_negative : (x : Float) → NonNegative (max_float x zero)
unfolding max_float Ieee.le Ieee.of_bits
max_float_non_negative x = record { compares = go (gt x zero) refl }
  where
    go : (b : Bool) → gt x zero ≡ b → (lt zero (cond b x zero) || eq zero (cond b x zero)) ≡ true
    go true h = rw h
    go false h = refl

pub limit_impulse_non_negative : (s : SoftBias Float) (mass cdot old : Float) → NonNegative (limit_impulse s mass cdot old)
unfolding limit_impulse
limit_impulse_non_negative s mass cdot old = max_float_non_negative _

pub lower_limit_row_non_negative : (s : SoftBias Float) (mass : Float) (axis : Vec3) (old : Float) (m : InvMasses) (v : Velocities) → NonNegative
    (lower_limit_row s mass axis old m v).impulse
unfolding lower_limit_row
lower_limit_row_non_negative s mass axis old m v = limit_impulse_non_negative _ _ _ _

pub upper_limit_row_non_negative : (s : SoftBias Float) (mass : Float) (axis : Vec3) (old : Float) (m : InvMasses) (v : Velocities) → NonNegative
    (upper_limit_row s mass axis old m v).impulse
unfolding upper_limit_row
upper_limit_row_non_negative s mass axis old m v = limit_impulse_non_negative _ _ _ _

-- a row whose switch is on is worked where rotation is not fixed
pub worked : {enabled fixed_rotation : Bool} → enabled ≡ true → fixed_rotation ≡ false → is_worked enabled fixed_rotation ≡ true
unfolding is_worked
worked on free = rw (on, free)

-- a worked pair of limit rows
module _ (l : TwistLimit) (s : Softness) (inv_h : Float) (use_bias : Bool) (m : InvMasses) (v : Velocities) where
  pub twist_lower_non_negative : NonNegative (twist_limit_rows true l s inv_h use_bias m v).lower_impulse
  unfolding twist_limit_rows
  twist_lower_non_negative = lower_limit_row_non_negative _ _ _ _ _ _

  pub twist_upper_non_negative : NonNegative (twist_limit_rows true l s inv_h use_bias m v).upper_impulse
  unfolding twist_limit_rows
  twist_upper_non_negative = upper_limit_row_non_negative _ _ _ _ _ _

-- ---- a stage over a joint of any kind: `found` is the record of the kind called, where the joint has it; `refusal` answers for every other joint

pub zero_at_most : AtMostOne 0 0
zero_at_most = record { number_bound = omega arith; place_zero = refl }

pub one_at_most : AtMostOne 1 0
one_at_most = record { number_bound = omega arith; place_zero = refl }

module _ {K A : Type 0} where
  -- what holds of the refusal and of every work
  pub always : (P : A → Type 0) (found : Option K) (refusal : A) (work : K → A) → P refusal → ((k : K) → P (work k)) → P (of_kind found refusal work)
  always P None refusal work p q = p
  always P (Some k) refusal work p q = q k

  -- what a refusal and every work leave alike
  pub kept : {B : Type 0} (f : A → B) (b : B) (found : Option K) (refusal : A) (work : K → A) → f refusal ≡ b → ((k : K) → f (work k) ≡ b) → f
      (of_kind found refusal work) ≡ b
  kept f b found refusal work p q = always (λ a. f a ≡ b) found refusal work p q

  pub numbered : (number : A → ℕ) (found : Option K) (refusal : A) (work : K → A) → number refusal ≡ 1 → ((k : K) → number (work k) ≡ 0) → number
      (of_kind found refusal work) ≡ cond (is_some found) 0 1
  numbered number None refusal work p q = p
  numbered number (Some k) refusal work p q = q k

  pub refused : (found : Option K) (refusal : A) (work : K → A) → is_some found ≡ false → of_kind found refusal work ≡ refusal
  refused None refusal work e = refl
  refused (Some k) refusal work e = cc

  -- a joint of the kind stays one, and no other becomes one
  pub case_kept : (union : A → JointUnion) (kind_of : JointUnion → Option K) (u : JointUnion) (refusal : A) (work : K → A) → union refusal ≡ u →
      ((k : K) → is_some (kind_of (union (work k))) ≡ true) → is_some (kind_of (union (of_kind (kind_of u) refusal work))) ≡ is_some (kind_of u)
  case_kept union kind_of u refusal work p q = go (kind_of u) refl
    where
      go : (found : Option K) → kind_of u ≡ found → is_some (kind_of (union (of_kind found refusal work))) ≡ is_some found
      go None e = rw (p, e)
      go (Some k) e = q k

  -- what holds of every work holds where the number is 0
  pub accepted : (number : A → ℕ) (P : A → Type 0) (found : Option K) (refusal : A) (work : K → A)
      → number refusal ≡ 1 → ((k : K) → P (work k)) → number (of_kind found refusal work) ≡ 0 → P (of_kind found refusal work)
  accepted number P found refusal work one q = always (λ a. number a ≡ 0 → P a) found refusal work (λ e. absurd (omega (arith, one, e))) (λ k e. q k)

  -- and there the joint was of the kind and still is, if every work leaves it so
  pub both_of_kind : (number : A → ℕ) (union : A → JointUnion) (kind_of : JointUnion → Option K) (P : K → K → Type 0) (u : JointUnion)
      (refusal : A) (work : K → A)
      → number refusal ≡ 1 → ((k : K) → (next : K) × (kind_of (union (work k)) ≡ Some next) × P k next)
      → number (of_kind (kind_of u) refusal work) ≡ 0 → BothOfKind kind_of P u (union (of_kind (kind_of u) refusal work))
  both_of_kind number union kind_of P u refusal work one q = by (kind_of u) refl
    where
      by : (found : Option K) → kind_of u ≡ found → number (of_kind found refusal work) ≡ 0
          → BothOfKind kind_of P u (union (of_kind found refusal work))
      by None e z = absurd (omega (arith, one, z))
      by (Some k) e z = let r = q k in record { joint = k; next = r.0; was = e; became = r.1; holds = r.2 }
