-- What holds of the stop code of every joint, in the words of document 01 and of C-11. Statements only: each is proved in proofs/Stops.antt, under the same
-- name in small letters. Assumes nothing.
use Rattle.std.specs.Prelude.{◌≡◌, ◌⊎◌, ◌↔◌, Bool, true, false, ℕ, ◌+◌, ◌*◌, ◌≤◌, Float}
use Rattle.std.specs.Float.{nan}
use Rattle.math_functions.specs.Float.{lt, gt, eq, le, ge, zero}
use Rattle.records.specs.declared.joint.JointSim.{JointSim}
use Rattle.records.specs.declared.joint.JointUnion.TheVariants.{Revolute, Spherical, Weld, Other}
use Rattle.records.specs.declared.joint.RevoluteJoint.{RevoluteJoint}
use Rattle.records.specs.declared.joint.SphericalJoint.{SphericalJoint}
use Rattle.records.specs.declared.joint.WeldJoint.{WeldJoint}
use Rattle.records.specs.Joint.{no_angles}
use Rattle.stop_code.specs.StopCode.{stop_code}

-- ==== Number and place

-- 'the stop code refuses only with 1, place 0'
pub record StopAnswer (joint : JointSim) : Type 0 where
  pub refused : ((stop_code joint).number ≡ 1) ↔ (joint.union_ ≡ Other)
  pub number_bound : (stop_code joint).number ≤ 1
  pub place_zero : (stop_code joint).place ≡ 0

-- The number is 1 exactly for the empty case, and else 0. The place is always 0.
abbrev pub StopNumber : Type 0
StopNumber = (joint : JointSim) → StopAnswer joint

-- ==== Code

-- 'fixed rotation, weld and a refusal give 0'. C-11: 'a NaN angle counts as not arrived': where the twist is NaN only the cone's 4 can stand, where the swing
-- is NaN it cannot, and where both are the code is 0
pub record CodeZero (joint : JointSim) : Type 0 where
  pub fixed : joint.base.fixed_rotation ≡ true → (stop_code joint).code ≡ 0
  pub weld : (w : WeldJoint) → joint.union_ ≡ Weld w → (stop_code joint).code ≡ 0
  pub refused : joint.union_ ≡ Other → (stop_code joint).code ≡ 0
  pub no_twist : joint.angles.twist ≡ nan → ((stop_code joint).code ≡ 0) ⊎ ((stop_code joint).code ≡ 4)
  pub no_swing : joint.angles.swing ≡ nan → (stop_code joint).code ≤ 3
  pub no_angles_lem : joint.angles ≡ no_angles → (stop_code joint).code ≡ 0

-- A joint whose rotation is fixed, a weld, the empty case, and a joint whose two angles are NaN have code 0; with one of the two NaN, the stops that go by it
-- count nothing.
abbrev pub NoStops : Type 0
NoStops = (joint : JointSim) → CodeZero joint

-- a stop: its limit's switch, its impulse, and whether the part has arrived there
pub record Stop : Type 0 where
  pub on : Bool
  pub impulse : Float
  pub arrived : Bool

-- C-11: 'the lower angle at or above the twist angle, the upper at or below it, the cone at or below the swing': a cone's stop is an upper one, by the swing
abbrev pub lower_stop : Bool → Float → Float → Float → Stop
lower_stop on impulse lower_angle angle = record { on = on; impulse = impulse; arrived = ge lower_angle angle }

abbrev pub upper_stop : Bool → Float → Float → Float → Stop
upper_stop on impulse upper_angle angle = record { on = on; impulse = impulse; arrived = le upper_angle angle }

-- a revolute joint has no cone, which counts as one that is off
abbrev pub no_stop : Stop
no_stop = record { on = false; impulse = nan; arrived = false }

-- what a bit of the code wants
pub record AtStop (fixed : Bool) (stop : Stop) : Type 0 where
  pub free : fixed ≡ false
  pub switched_on : stop.on ≡ true
  pub pushes : gt stop.impulse zero ≡ true
  pub arrives : stop.arrived ≡ true

-- A bit of the code: 1 exactly where rotation is not fixed, the switch is on, the impulse is above zero and the part has arrived. So it is 0 where rotation is
-- fixed; where the switch is off, whatever the impulse; where the impulse is a NaN, a zero of either sign, or negative; and where the part has not arrived.
pub record Bit (fixed : Bool) (stop : Stop) (bit : ℕ) : Type 0 where
  pub one : (bit ≡ 1) ↔ AtStop fixed stop
  pub bound : bit ≤ 1
  pub rotation_fixed : fixed ≡ true → bit ≡ 0
  pub switched_off : stop.on ≡ false → bit ≡ 0
  pub of_nan : stop.impulse ≡ nan → bit ≡ 0
  pub of_zero : eq stop.impulse zero ≡ true → bit ≡ 0
  pub of_negative : lt stop.impulse zero ≡ true → bit ≡ 0
  pub not_arrived : stop.arrived ≡ false → bit ≡ 0

-- The code of three stops: l + 2 · u + 4 · c, each a bit.
pub record Bits (fixed : Bool) (lower upper cone : Stop) (code : ℕ) : Type 0 where
  pub l : ℕ
  pub u : ℕ
  pub c : ℕ
  pub sum : code ≡ l + 2 * u + 4 * c
  pub lower_bit : Bit fixed lower l
  pub upper_bit : Bit fixed upper u
  pub cone_bit : Bit fixed cone c

-- '1 if the lower impulse is above zero, plus 2 for upper', and the part has arrived: of a revolute joint's limit and the twist angle that it holds
abbrev pub RevoluteStops : Type 0
RevoluteStops = (joint : JointSim) (r : RevoluteJoint) → joint.union_ ≡ Revolute r
    → let twist = joint.angles.twist in
    Bits joint.base.fixed_rotation
    (lower_stop r.enable_limit r.lower_impulse r.lower_angle twist)
    (upper_stop r.enable_limit r.upper_impulse r.upper_angle twist)
    no_stop
    (stop_code joint).code

-- 'plus 4 for swing', and the part has arrived: a spherical joint's limit is its twist limit, and it has a cone, which goes by the swing angle.
abbrev pub SphericalStops : Type 0
SphericalStops = (joint : JointSim) (r : SphericalJoint) → joint.union_ ≡ Spherical r
    → let twist = joint.angles.twist in
    Bits joint.base.fixed_rotation
    (lower_stop r.enable_twist_limit r.lower_twist_impulse r.lower_twist_angle twist)
    (upper_stop r.enable_twist_limit r.upper_twist_impulse r.upper_twist_angle twist)
    (upper_stop r.enable_cone_limit r.swing_impulse r.cone_angle joint.angles.swing)
    (stop_code joint).code

-- C-11: 'a NaN angle counts as not arrived'. Nor does a limit whose own angle is a NaN have a part that has arrived.
pub record NanNotArrived (on : Bool) (impulse x : Float) : Type 0 where
  pub at_lower : (lower_stop on impulse x nan).arrived ≡ false
  pub at_upper : (upper_stop on impulse x nan).arrived ≡ false
  pub of_lower : (lower_stop on impulse nan x).arrived ≡ false
  pub of_upper : (upper_stop on impulse nan x).arrived ≡ false

abbrev pub NoNanArrives : Type 0
NoNanArrives = (on : Bool) (impulse x : Float) → NanNotArrived on impulse x
