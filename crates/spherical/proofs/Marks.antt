-- C-15's marks of the spherical joint's solve and prepare, for all inputs: each at the matrix that was formed. Assumes nothing.
use Rattle.std.specs.Prelude.{Some}
use mathlib.Core.Path.{◌≡◌, refl, sym, ◌∙◌}
use mathlib.Core.Bool.{Bool, true, false}
use lib.Ieee.{Float}
use Rattle.math_functions.specs.declared.mark.Mark.TheVariants.{FellBack}
use Rattle.math_functions.specs.declared.types.Vec3.{Vec3}
use Rattle.math_functions.specs.declared.types.Matrix3.{Matrix3}
use Rattle.math_functions.specs.Float.{lt, threshold}
use Rattle.math_functions.specs.Mark.{no_mark}
use Rattle.math_functions.specs.Types.{mat3_zero}
use Rattle.math_functions.specs.Matrix.{add_mm, solve3_mark}
use Rattle.math_functions.proofs.Marks.{fell_back_to_zeros}
use Rattle.records.specs.declared.body.BodyRecord.{BodyRecord}
use Rattle.records.specs.declared.body.BodyState.{BodyState}
use Rattle.records.specs.declared.joint.JointBase.{JointBase}
use Rattle.records.specs.declared.joint.SphericalJoint.{SphericalJoint}
use Rattle.constraint.specs.Prepare.{inertia_det, prepare_base}
use Rattle.constraint.specs.Answer.{report}
use Rattle.constraint.specs.Claims.{point_matrix}
use Rattle.constraint.specs.Point.{point_row_at}
use Rattle.spherical.specs.Spherical.{prepare_rotation_mass, rotation_mass_mark, keep_impulses, prepare_spherical, solve_point, solve_spherical}

pub solve_marks : (base : JointBase) (j : SphericalJoint) (state_a state_b : BodyState) (h inv_h : Float) (use_bias : Bool) →
    (solve_spherical base j h inv_h state_a state_b use_bias).report
    ≡ report no_mark (Some (solve3_mark (point_matrix base j.frame_a j.frame_b state_a state_b)))
unfolding solve_spherical solve_point point_row_at
solve_marks base j state_a state_b h inv_h use_bias = refl

-- where rotation is fixed the mass is zeros too, and has no mark
fell_back : (fixed_rotation : Bool) (sum : Matrix3) → rotation_mass_mark fixed_rotation sum ≡ Some FellBack
    → prepare_rotation_mass fixed_rotation sum ≡ mat3_zero
unfolding prepare_rotation_mass rotation_mass_mark
fell_back true sum e = refl
fell_back false sum e = fell_back_to_zeros.inverse sum (cc)

kept_mass : (j : SphericalJoint) (enable_warm_starting : Bool) → (keep_impulses j enable_warm_starting).rotation_mass ≡ j.rotation_mass
unfolding keep_impulses
kept_mass j true = refl
kept_mass j false = refl

module _ (base : JointBase) (j : SphericalJoint) (h : Float) (enable_warm_starting : Bool) (delta_center : Vec3) (body_a body_b : BodyRecord) where
  -- the rotation mass is that of the summed inverse inertias, and is inverted where prepare does not find rotation fixed
  pub prepare_mark :
      (prepare_spherical base j h enable_warm_starting delta_center body_a body_b).mass_mark
      ≡ rotation_mass_mark (lt (inertia_det body_a body_b) threshold) (add_mm body_a.inv_inertia_world body_b.inv_inertia_world)
  unfolding prepare_spherical prepare_base
  prepare_mark = refl

  prepare_mass :
      (prepare_spherical base j h enable_warm_starting delta_center body_a body_b).joint.rotation_mass
      ≡ prepare_rotation_mass (lt (inertia_det body_a body_b) threshold) (add_mm body_a.inv_inertia_world body_b.inv_inertia_world)
  unfolding prepare_spherical prepare_base
  prepare_mass = kept_mass _ enable_warm_starting

  -- where it fell back it is zeros
  pub prepare_fell_back :
      (prepare_spherical base j h enable_warm_starting delta_center body_a body_b).mass_mark ≡ Some FellBack
      → (prepare_spherical base j h enable_warm_starting delta_center body_a body_b).joint.rotation_mass ≡ mat3_zero
  prepare_fell_back e = prepare_mass ∙ fell_back (lt (inertia_det body_a body_b) threshold) _ (sym prepare_mark ∙ e)
