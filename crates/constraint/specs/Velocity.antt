-- The velocities that the rows change, the inverse masses that they multiply by, and how a row's impulse changes the velocities. Definitions only. Assumes
-- nothing.
use Rattle.std.specs.Prelude.{Float}
use Rattle.math_functions.specs.declared.types.Vec3.{Vec3}
use Rattle.math_functions.specs.Vector.{add, sub, cross, mul_add, mul_sub}
use Rattle.math_functions.specs.declared.types.Transform.{Transform}
use Rattle.math_functions.specs.Matrix.{mul_mv}
use Rattle.math_functions.specs.Quat.{rotate_vector}
use Rattle.records.specs.declared.body.BodyState.{BodyState}
use Rattle.records.specs.declared.joint.JointBase.{JointBase}
use Rattle.constraint.specs.declared.velocity.Velocities.{Velocities}
use Rattle.constraint.specs.declared.velocity.InvMasses.{InvMasses}
use Rattle.constraint.specs.declared.velocity.Anchors.{Anchors}

abbrev pub velocities : Vec3 → Vec3 → Vec3 → Vec3 → Velocities
velocities v_a w_a v_b w_b = record { v_a = v_a; w_a = w_a; v_b = v_b; w_b = w_b }

-- of a state nothing but its velocities
unfoldable pub velocities_of : BodyState → BodyState → Velocities
velocities_of a b = velocities a.linear_velocity a.angular_velocity b.linear_velocity b.angular_velocity

unfoldable pub inv_masses_of : JointBase → InvMasses
inv_masses_of base = record { m_a = base.inv_mass_a; m_b = base.inv_mass_b; i_a = base.inv_i_a; i_b = base.inv_i_b }

-- r_a and r_b reach from the centres to the anchors
abbrev pub anchors_of : Transform → Transform → BodyState → BodyState → Anchors
anchors_of frame_a frame_b state_a state_b =
    record { r_a = rotate_vector state_a.delta_rotation frame_a.p; r_b = rotate_vector state_b.delta_rotation frame_b.p }

-- revolute's spring and motor, and the lower limits: w_a loses the impulse, w_b gains it
unfoldable pub apply_axial : InvMasses → Float → Vec3 → Velocities → Velocities
apply_axial m impulse axis v =
    velocities v.v_a (mul_sub v.w_a impulse (mul_mv m.i_a axis)) v.v_b (mul_add v.w_b impulse (mul_mv m.i_b axis))

-- upper limit and cone: sign flipped on applied impulse
unfoldable pub apply_axial_flipped : InvMasses → Float → Vec3 → Velocities → Velocities
apply_axial_flipped m impulse axis v =
    velocities v.v_a (mul_add v.w_a impulse (mul_mv m.i_a axis)) v.v_b (mul_sub v.w_b impulse (mul_mv m.i_b axis))

unfoldable pub apply_angular : InvMasses → Vec3 → Velocities → Velocities
apply_angular m impulse v =
    velocities v.v_a (sub v.w_a (mul_mv m.i_a impulse)) v.v_b (add v.w_b (mul_mv m.i_b impulse))

unfoldable pub apply_point : InvMasses → Vec3 → Vec3 → Vec3 → Velocities → Velocities
apply_point m r_a r_b impulse v =
    velocities
    (mul_sub v.v_a m.m_a impulse)
    (sub v.w_a (mul_mv m.i_a (cross r_a impulse)))
    (mul_add v.v_b m.m_b impulse)
    (add v.w_b (mul_mv m.i_b (cross r_b impulse)))

unfoldable pub apply_warm : InvMasses → Vec3 → Vec3 → Vec3 → Vec3 → Velocities → Velocities
apply_warm m r_a r_b linear_impulse angular_impulse v =
    velocities
    (mul_sub v.v_a m.m_a linear_impulse)
    (sub v.w_a (mul_mv m.i_a (add (cross r_a linear_impulse) angular_impulse)))
    (mul_add v.v_b m.m_b linear_impulse)
    (add v.w_b (mul_mv m.i_b (add (cross r_b linear_impulse) angular_impulse)))
