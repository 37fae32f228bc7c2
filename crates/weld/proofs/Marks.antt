-- C-15's marks of the weld joint's solve and prepare, for all inputs: each at the matrix that was formed. Assumes nothing.
use Rattle.std.specs.Prelude.{Some}
use mathlib.Core.Path.{◌≡◌, refl, sym, ◌∙◌}
use mathlib.Core.Bool.{Bool, true, false}
use lib.Ieee.{Float}
use Rattle.math_functions.specs.declared.mark.Mark.TheVariants.{FellBack}
use Rattle.math_functions.specs.declared.types.Vec3.{Vec3}
use Rattle.math_functions.specs.Mark.{no_mark}
use Rattle.math_functions.specs.Types.{mat3_zero}
use Rattle.math_functions.specs.Matrix.{add_mm, invert_matrix, invert_matrix_mark, solve3_mark}
use Rattle.math_functions.proofs.Marks.{fell_back_to_zeros}
use Rattle.records.specs.declared.body.BodyRecord.{BodyRecord}
use Rattle.records.specs.declared.body.BodyState.{BodyState}
use Rattle.records.specs.declared.joint.JointBase.{JointBase}
use Rattle.records.specs.declared.joint.WeldJoint.{WeldJoint}
use Rattle.constraint.specs.Answer.{report}
use Rattle.constraint.specs.Claims.{point_matrix}
use Rattle.constraint.specs.Point.{point_row_at}
use Rattle.weld.specs.Weld.{keep_impulses, prepare_weld, solve_point, solve_weld}

pub solve_marks : (base : JointBase) (j : WeldJoint) (state_a state_b : BodyState) (use_bias : Bool) →
    (solve_weld base j state_a state_b use_bias).report ≡ report no_mark (Some (solve3_mark (point_matrix base j.frame_a j.frame_b state_a state_b)))
unfolding solve_weld solve_point point_row_at
solve_marks base j state_a state_b use_bias = refl

kept_mass : (j : WeldJoint) (enable_warm_starting : Bool) → (keep_impulses j enable_warm_starting).angular_mass ≡ j.angular_mass
unfolding keep_impulses
kept_mass j true = refl
kept_mass j false = refl

module _ (base : JointBase) (j : WeldJoint) (h : Float) (enable_warm_starting : Bool) (delta_center : Vec3) (body_a body_b : BodyRecord) where
  -- the angular mass is that of the summed inverse inertias, inverted whether or not rotation is fixed
  pub prepare_mark :
      (prepare_weld base j h enable_warm_starting delta_center body_a body_b).mass_mark
      ≡ Some (invert_matrix_mark (add_mm body_a.inv_inertia_world body_b.inv_inertia_world))
  unfolding prepare_weld
  prepare_mark = refl

  prepare_mass :
      (prepare_weld base j h enable_warm_starting delta_center body_a body_b).joint.angular_mass
      ≡ invert_matrix (add_mm body_a.inv_inertia_world body_b.inv_inertia_world)
  unfolding prepare_weld
  prepare_mass = kept_mass _ enable_warm_starting

  -- where it fell back it is zeros
  pub prepare_fell_back :
      (prepare_weld base j h enable_warm_starting delta_center body_a body_b).mass_mark ≡ Some FellBack
      → (prepare_weld base j h enable_warm_starting delta_center body_a body_b).joint.angular_mass ≡ mat3_zero
  prepare_fell_back e = let is = sym prepare_mark ∙ e in prepare_mass ∙ fell_back_to_zeros.inverse _ (cc)
