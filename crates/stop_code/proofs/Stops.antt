-- The claims of specs/Claims.antt on the stop code, proved, each under its statement's name in small letters. Assumes nothing.
use mathlib.Core.Path.{◌≡◌, refl, sym, ap, ◌∙◌}
use mathlib.Core.Logic.{◌≢◌, ◌↔◌, ◌⊎◌, inl, inr, ⊎_elim}
use mathlib.Core.Bool.{Bool, true, false, not, cond, ◌&&◌, false≢true, and-eq-true_iff}
use Prim.Native.Nat.{ℕ, zero, suc, ◌+◌, ◌*◌, ◌≤◌}
use native.Mathlib.Omega.{arith}
use lib.Ieee as Ieee
use lib.Ieee.{Float, nan, inf, fin}
use Rattle.math_functions.specs.Float as Float-of
use Rattle.math_functions.specs.Float.{gt, le}
use Rattle.math_functions.proofs.Facts.{nan_not_above, zero_not_above, negative_not_above}
use Rattle.records.specs.declared.joint.LimitAngles.{LimitAngles}
use Rattle.records.specs.declared.joint.JointSim.{JointSim}
use Rattle.records.specs.declared.joint.JointUnion.{JointUnion}
use Rattle.records.specs.declared.joint.JointUnion.TheVariants.{Revolute, Spherical, Weld, Other}
use Rattle.records.specs.Joint.{case_of, no_angles}
use Rattle.stop_code.specs.StopCode.{is_pushing, is_at_lower, is_at_upper, sum_stops, revolute_stops, spherical_stops, found, stops_of, stop_code}
use Rattle.stop_code.specs.Claims.{StopNumber, NoStops, Stop, no_stop, AtStop, Bit, Bits, RevoluteStops, SphericalStops, NoNanArrives}

-- ---- number and place

-- what a joint is told, with rotation fixed or not
by_fixed : (b : Bool) (n : ℕ) → ((cond b (found 0) (found n)).number ≡ 0) × ((cond b (found 0) (found n)).place ≡ 0)
by_fixed true n = (refl, refl)
by_fixed false n = (refl, refl)

-- a case that is not the empty one
of_three : (u : JointUnion) (n : ℕ) → case_of u ≢ 3 → n ≡ 0 → ((n ≡ 1) ↔ (u ≡ Other)) × (n ≤ 1)
of_three u n three e = ((λ one. absurd (omega (arith, one, e)), λ other. absurd (three (ap case_of other))), omega (arith, e))

answer_of : (u : JointUnion) (b : Bool) (x : LimitAngles) → (((stops_of u b x).number ≡ 1) ↔ (u ≡ Other)) × ((stops_of u b x).number ≤ 1)
unfolding stops_of
answer_of (Revolute r) b x = of_three (Revolute r) _ (λ e. omega (arith, e)) (by_fixed b (revolute_stops r x)).0
answer_of (Spherical r) b x = of_three (Spherical r) _ (λ e. omega (arith, e)) (by_fixed b (spherical_stops r x)).0
answer_of (Weld r) b x = of_three (Weld r) 0 (λ e. omega (arith, e)) refl
answer_of Other b x = ((λ e. refl, λ e. refl), omega arith)

place_of : (u : JointUnion) (b : Bool) (x : LimitAngles) → (stops_of u b x).place ≡ 0
unfolding stops_of
place_of (Revolute r) b x = (by_fixed b (revolute_stops r x)).1
place_of (Spherical r) b x = (by_fixed b (spherical_stops r x)).1
place_of (Weld r) b x = refl
place_of Other b x = refl

pub stop_number : StopNumber
unfolding stop_code
stop_number joint =
    let u = joint.union_ in
    let b = joint.base.fixed_rotation in
    let x = joint.angles in
    record { refused = (answer_of u b x).0; number_bound = (answer_of u b x).1; place_zero = place_of u b x }

-- ---- a NaN has not arrived

le_nan : (x : Float) → le x nan ≡ false
unfolding Ieee.le Ieee.lt Ieee.eq
le_nan nan = refl
le_nan (inf s) = refl
le_nan (fin s m e) = refl

nan_le : (x : Float) → le nan x ≡ false
unfolding Ieee.le Ieee.lt Ieee.eq
nan_le x = refl

pub no_nan_arrives : NoNanArrives
no_nan_arrives on impulse x = record { at_lower = nan_le x; at_upper = le_nan x; of_lower = le_nan x; of_upper = nan_le x }

-- ---- bits

abbrev bit : Bool → ℕ
bit b = cond b 1 0

at_most_one : (b : Bool) → bit b ≤ 1
at_most_one true = omega arith
at_most_one false = omega arith

is_one : (b : Bool) → (bit b ≡ 1) ↔ (b ≡ true)
is_one true = (λ e. refl, λ e. refl)
is_one false = (λ e. absurd (omega (arith, e)), λ e. absurd (false≢true e))

not_left : (a b : Bool) → a ≡ false → (a && b) ≡ false
not_left a b e = rw e

and_true : (a : Bool) → (a && true) ≡ a
and_true true = refl
and_true false = refl

not_right : (a b : Bool) → b ≡ false → (a && b) ≡ false
not_right true b e = e
not_right false b e = refl

is_free : (fixed : Bool) → (not fixed ≡ true) ↔ (fixed ≡ false)
is_free true = (λ e. absurd (false≢true e), λ e. absurd (false≢true (sym e)))
is_free false = (λ e. refl, λ e. refl)

-- the part is at the stop, and rotation is not fixed
abbrev counts : Bool → Stop → Bool
counts fixed stop = (is_pushing stop.on stop.impulse && stop.arrived) && not fixed

module _ (fixed : Bool) (stop : Stop) where
  abbrev above : Bool
  above = gt stop.impulse Float-of.zero

  abbrev pushes : Bool
  pushes = stop.on && above

  abbrev at : Bool
  at = pushes && stop.arrived

  to_stop : (at && not fixed) ≡ true → AtStop fixed stop
  to_stop e =
      let all = (and-eq-true_iff at (not fixed)).0 e in
      let here = (and-eq-true_iff pushes stop.arrived).0 all.0 in
      let both = (and-eq-true_iff stop.on above).0 here.0 in
      record { free = (is_free fixed).0 all.1; switched_on = both.0; pushes = both.1; arrives = here.1 }

  from_stop : AtStop fixed stop → (at && not fixed) ≡ true
  from_stop h =
      (and-eq-true_iff at (not fixed)).1
      ((and-eq-true_iff pushes stop.arrived).1 ((and-eq-true_iff stop.on above).1 (h.switched_on, h.pushes), h.arrives), (is_free fixed).1 h.free)

  not_pushing : pushes ≡ false → bit (at && not fixed) ≡ 0
  not_pushing e = ap bit (not_left at (not fixed) (not_left pushes stop.arrived e))

  not_above : above ≡ false → bit (at && not fixed) ≡ 0
  not_above e = not_pushing (not_right stop.on above e)

  bit_of : Bit fixed stop (bit (counts fixed stop))
  unfolding is_pushing
  bit_of =
      record {
        one = (λ e. to_stop ((is_one _).0 e), λ h. (is_one _).1 (from_stop h));
        bound = at_most_one (counts fixed stop);
        rotation_fixed = λ e. ap bit (not_right at (not fixed) (ap not e));
        switched_off = λ e. not_pushing (not_left stop.on above e);
        of_nan = λ e. not_above (ap (λ x. gt x Float-of.zero) e ∙ nan_not_above);
        of_zero = λ e. not_above (zero_not_above stop.impulse e);
        of_negative = λ e. not_above (negative_not_above stop.impulse e);
        not_arrived = λ e. ap bit (not_left at (not fixed) (not_right pushes stop.arrived e));
      }

-- ---- the code

sum_is : (lower upper cone : Bool) → sum_stops lower upper cone ≡ bit lower + 2 * bit upper + 4 * bit cone
unfolding sum_stops
sum_is lower true true = refl
sum_is lower true false = refl
sum_is lower false true = refl
sum_is lower false false = refl

-- of three stops, rotation fixed or not
code_is : (fixed l u c : Bool)
    → (cond fixed (found 0) (found (sum_stops l u c))).code ≡ bit (l && not fixed) + 2 * bit (u && not fixed) + 4 * bit (c && not fixed)
code_is true l u c = rw (not_right l false refl, not_right u false refl, not_right c false refl)
code_is false l u c = rw (and_true l, and_true u, and_true c) (sum_is l u c)

bits_of : (fixed : Bool) (lower upper cone : Stop) (code : ℕ)
    → code ≡ bit (counts fixed lower) + 2 * bit (counts fixed upper) + 4 * bit (counts fixed cone) → Bits fixed lower upper cone code
bits_of fixed lower upper cone code e =
    record {
      l = bit (counts fixed lower);
      u = bit (counts fixed upper);
      c = bit (counts fixed cone);
      sum = e;
      lower_bit = bit_of fixed lower;
      upper_bit = bit_of fixed upper;
      cone_bit = bit_of fixed cone;
    }

pub revolute_stops_lem : RevoluteStops
unfolding stop_code stops_of revolute_stops is_at_lower is_at_upper is_pushing
revolute_stops_lem joint r e = bits_of joint.base.fixed_rotation _ _ no_stop _ (rw e (code_is joint.base.fixed_rotation _ _ false))

pub spherical_stops_lem : SphericalStops
unfolding stop_code stops_of spherical_stops is_at_lower is_at_upper
spherical_stops_lem joint r e = bits_of joint.base.fixed_rotation _ _ _ _ (rw e (code_is joint.base.fixed_rotation _ _ _))

-- ---- code 0

code_fixed : (u : JointUnion) (x : LimitAngles) → (stops_of u true x).code ≡ 0
unfolding stops_of
code_fixed (Revolute r) x = refl
code_fixed (Spherical r) x = refl
code_fixed (Weld r) x = refl
code_fixed Other x = refl

-- the code's bits, where no part has arrived at the lower and the upper stop, and where none has at the cone
bits_without_twist : {fixed : Bool} {lower upper cone : Stop} {code : ℕ} → Bits fixed lower upper cone code
    → lower.arrived ≡ false → upper.arrived ≡ false → (code ≡ 0) ⊎ (code ≡ 4)
bits_without_twist {code} b l u = by b.c refl b.cone_bit.bound
  where
    by : (n : ℕ) → b.c ≡ n → n ≤ 1 → (code ≡ 0) ⊎ (code ≡ 4)
    by zero e h = inl (omega (arith, b.sum, b.lower_bit.not_arrived l, b.upper_bit.not_arrived u, e))
    by (suc zero) e h = inr (omega (arith, b.sum, b.lower_bit.not_arrived l, b.upper_bit.not_arrived u, e))
    by (suc (suc n)) e h = absurd (omega arith)

bits_without_swing : {fixed : Bool} {lower upper cone : Stop} {code : ℕ} → Bits fixed lower upper cone code → cone.arrived ≡ false → code ≤ 3
bits_without_swing b c = omega (arith, b.sum, b.lower_bit.bound, b.upper_bit.bound, b.cone_bit.not_arrived c)

module _ (joint : JointSim) where
  without_twist : (u : JointUnion) → joint.union_ ≡ u → joint.angles.twist ≡ nan → ((stop_code joint).code ≡ 0) ⊎ ((stop_code joint).code ≡ 4)
  unfolding stop_code stops_of
  without_twist (Revolute r) e none = bits_without_twist (revolute_stops_lem joint r e) (rw none (nan_le _)) (rw none (le_nan _))
  without_twist (Spherical r) e none = bits_without_twist (spherical_stops_lem joint r e) (rw none (nan_le _)) (rw none (le_nan _))
  without_twist (Weld r) e none = inl (rw e)
  without_twist Other e none = inl (rw e)

  without_swing : (u : JointUnion) → joint.union_ ≡ u → joint.angles.swing ≡ nan → (stop_code joint).code ≤ 3
  unfolding stop_code stops_of
  without_swing (Revolute r) e none = bits_without_swing (revolute_stops_lem joint r e) refl
  without_swing (Spherical r) e none = bits_without_swing (spherical_stops_lem joint r e) (rw none (le_nan _))
  without_swing (Weld r) e none = rw e (omega arith)
  without_swing Other e none = rw e (omega arith)

  without_both : joint.angles ≡ no_angles → (stop_code joint).code ≡ 0
  without_both none =
      let u = joint.union_ in
      let few = without_swing u refl (ap (λ x. x.swing) none) in
      ⊎_elim (λ z. z) (λ four. absurd (omega (arith, few, four))) (without_twist u refl (ap (λ x. x.twist) none))

pub no_stops : NoStops
unfolding stop_code stops_of
no_stops joint =
    record {
      fixed = λ e. ap (λ b. (stops_of joint.union_ b joint.angles).code) e ∙ code_fixed joint.union_ joint.angles;
      weld = λ w e. rw e;
      refused = λ e. rw e;
      no_twist = without_twist joint joint.union_ refl;
      no_swing = without_swing joint joint.union_ refl;
      no_angles_lem = without_both joint;
    }
