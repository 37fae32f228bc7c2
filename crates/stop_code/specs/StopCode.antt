-- Document 01's stop code, from the joint alone, with what C-11 adds: a stop counts only where the part has also arrived there. Definitions only.
-- Assumes nothing.
use Rattle.std.specs.Prelude.{Bool, false, cond, ◌&&◌, ℕ, ◌+◌, Float, Result, Ok, Err}
use Rattle.math_functions.specs.Float.{gt, le, ge, zero}
use Rattle.records.specs.declared.joint.LimitAngles.{LimitAngles}
use Rattle.records.specs.declared.joint.JointSim.{JointSim}
use Rattle.records.specs.declared.joint.JointUnion.{JointUnion}
use Rattle.records.specs.declared.joint.JointUnion.TheVariants.{Revolute, Spherical, Weld, Other}
use Rattle.records.specs.declared.joint.RevoluteJoint.{RevoluteJoint}
use Rattle.records.specs.declared.joint.SphericalJoint.{SphericalJoint}
use Rattle.records.specs.declared.refusal.WrongKind.{WrongKind}

-- a limit that is off counts nothing
unfoldable pub is_pushing : Bool → Float → Bool
is_pushing enabled impulse = enabled && gt impulse zero

-- C-11: 'the stop code now also wants the lower angle at or above the twist angle', by the float comparison, so that 'a NaN angle counts as not arrived'
unfoldable pub is_at_lower : Bool → Float → Float → Float → Bool
is_at_lower enabled impulse lower_angle angle = is_pushing enabled impulse && ge lower_angle angle

-- C-11: 'the upper at or below it, the cone at or below the swing'
unfoldable pub is_at_upper : Bool → Float → Float → Float → Bool
is_at_upper enabled impulse upper_angle angle = is_pushing enabled impulse && le upper_angle angle

-- 1 for the lower stop, plus 2 for the upper, plus 4 for the cone
unfoldable pub sum_stops : Bool → Bool → Bool → ℕ
sum_stops lower upper cone = cond lower 1 0 + cond upper 2 0 + cond cone 4 0

unfoldable pub revolute_stops : RevoluteJoint → LimitAngles → ℕ
revolute_stops j angles =
    sum_stops
    (is_at_lower j.enable_limit j.lower_impulse j.lower_angle angles.twist)
    (is_at_upper j.enable_limit j.upper_impulse j.upper_angle angles.twist)
    false

unfoldable pub spherical_stops : SphericalJoint → LimitAngles → ℕ
spherical_stops j angles =
    sum_stops
    (is_at_lower j.enable_twist_limit j.lower_twist_impulse j.lower_twist_angle angles.twist)
    (is_at_upper j.enable_twist_limit j.upper_twist_impulse j.upper_twist_angle angles.twist)
    (is_at_upper j.enable_cone_limit j.swing_impulse j.cone_angle angles.swing)

-- number, place and code
pub record StopCode : Type 0 where
  pub number : ℕ
  pub place : ℕ
  pub code : ℕ

abbrev pub found : ℕ → StopCode
found code = record { number = 0; place = 0; code = code }

-- 'the stop code refuses only with 1, place 0', and 'a refusal gives 0'
abbrev pub refused : StopCode
refused = record { number = 1; place = 0; code = 0 }

-- that answer of what the code returns
abbrev pub answer_of : Result ℕ WrongKind → StopCode
answer_of (Ok code) = found code
answer_of (Err w) = refused

-- fixed rotation, weld and a refusal give 0
unfoldable pub stops_of : JointUnion → Bool → LimitAngles → StopCode
stops_of (Revolute j) fixed_rotation angles = cond fixed_rotation (found 0) (found (revolute_stops j angles))
stops_of (Spherical j) fixed_rotation angles = cond fixed_rotation (found 0) (found (spherical_stops j angles))
stops_of (Weld j) fixed_rotation angles = found 0
stops_of Other fixed_rotation angles = refused

unfoldable pub stop_code : JointSim → StopCode
stop_code joint = stops_of joint.union_ joint.base.fixed_rotation joint.angles
