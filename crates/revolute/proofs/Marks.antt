-- C-15's marks of the revolute joint's solve, for all inputs: each at the matrix that the solve formed. Assumes nothing.
use mathlib.Core.Path.{◌≡◌, refl, ap}
use mathlib.Core.Bool.{Bool, true, false, not, cond}
use lib.Ieee.{Float}
use Rattle.std.specs.Prelude.{Option, Some}
use Rattle.math_functions.specs.declared.mark.Mark.{Mark}
use Rattle.math_functions.specs.Mark.{no_mark}
use Rattle.math_functions.specs.Matrix.{solve2_mark, solve3_mark}
use Rattle.solver.specs.declared.Softness.{Softness}
use Rattle.records.specs.declared.body.BodyState.{BodyState}
use Rattle.records.specs.declared.joint.RevoluteJoint.{RevoluteJoint}
use Rattle.records.specs.declared.joint.JointBase.{JointBase}
use Rattle.constraint.specs.declared.velocity.Velocities.{Velocities}
use Rattle.constraint.specs.Velocity.{inv_masses_of}
use Rattle.constraint.specs.Answer.{report}
use Rattle.constraint.specs.Claims.{point_matrix}
use Rattle.revolute.specs.Revolute.{collinear_row, perp_row, point_row, joint_rotation, solve_perp, solve_point, solve_revolute}
use Rattle.revolute.specs.Claims.{perp_matrix}

module _ (base : JointBase) (j : RevoluteJoint) (state_a state_b : BodyState) where
  -- the perpendicular row has a mark where it is worked
  perp_mark : (fixed_rotation : Bool) (s : Softness) (use_bias : Bool) (v : Velocities) →
      (solve_perp fixed_rotation s j (joint_rotation j state_a state_b) use_bias (inv_masses_of base) v).mark
      ≡ cond (not fixed_rotation) (Some (solve2_mark (perp_matrix base j state_a state_b))) no_mark
  unfolding solve_perp perp_row collinear_row inv_masses_of
  perp_mark true s use_bias v = refl
  perp_mark false s use_bias v = refl

  pub solve_marks : (h inv_h : Float) (use_bias : Bool) →
      (solve_revolute base j h inv_h state_a state_b use_bias).report
      ≡ report (cond (not base.fixed_rotation) (Some (solve2_mark (perp_matrix base j state_a state_b))) no_mark)
      (Some (solve3_mark (point_matrix base j.frame_a j.frame_b state_a state_b)))
  unfolding solve_revolute solve_point point_row
  solve_marks h inv_h use_bias =
      ap (λ (mark : Option Mark). report mark (Some (solve3_mark (point_matrix base j.frame_a j.frame_b state_a state_b))))
      (perp_mark base.fixed_rotation base.constraint_softness use_bias _)
