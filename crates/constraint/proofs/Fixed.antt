-- When prepare fixes the rotation: by the determinant of the sum of the two inverse inertias, for every base and every two bodies. Assumes nothing.
use mathlib.Core.Path.{◌≡◌, refl, ap, ◌∙◌}
use mathlib.Core.Bool.{true, false}
use lib.Ieee.{nan}
use Rattle.math_functions.specs.Float.{lt, zero, threshold}
use Rattle.math_functions.proofs.Facts.{negative_below_threshold, nan_not_below_threshold}
use Rattle.records.specs.declared.body.BodyRecord.{BodyRecord}
use Rattle.records.specs.declared.joint.JointBase.{JointBase}
use Rattle.constraint.specs.Prepare.{inertia_det, prepare_base}

module _ (base : JointBase) (body_a body_b : BodyRecord) where
  -- it is fixed exactly where the determinant compares below the threshold
  pub fixed_is : (prepare_base base body_a body_b).fixed_rotation ≡ lt (inertia_det body_a body_b) threshold
  unfolding prepare_base
  fixed_is = refl

  -- a negative determinant is fixed
  pub fixed_negative : lt (inertia_det body_a body_b) zero ≡ true → (prepare_base base body_a body_b).fixed_rotation ≡ true
  fixed_negative e = fixed_is ∙ negative_below_threshold (inertia_det body_a body_b) e

  -- one that is a NaN is not
  pub fixed_nan : inertia_det body_a body_b ≡ nan → (prepare_base base body_a body_b).fixed_rotation ≡ false
  fixed_nan e = fixed_is ∙ ap (λ d. lt d threshold) e ∙ nan_not_below_threshold
