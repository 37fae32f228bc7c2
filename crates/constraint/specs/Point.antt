-- The pieces of the point rows of the three kinds. Definitions only. Assumes nothing.
use Rattle.std.specs.Prelude.{Bool, cond, Float}
use Rattle.math_functions.specs.declared.types.Vec3.{Vec3}
use Rattle.math_functions.specs.declared.types.Matrix3.{Matrix3}
use Rattle.math_functions.specs.declared.mark.Mark.{Mark}
use Rattle.math_functions.specs.Float.{◌⊕◌}
use Rattle.math_functions.specs.Types.{vec3, matrix3}
use Rattle.math_functions.specs.Vector.{add, sub, cross}
use Rattle.math_functions.specs.Matrix.{add_mm, mul_mm, negate_mat3, skew, solve3, solve3_mark}
use Rattle.solver.specs.declared.Softness.{Softness}
use Rattle.constraint.specs.declared.velocity.Velocities.{Velocities}
use Rattle.constraint.specs.declared.velocity.InvMasses.{InvMasses}
use Rattle.constraint.specs.declared.soft.SoftBias.{SoftBias}
use Rattle.constraint.specs.declared.point.PointRow.{PointRow}
use Rattle.constraint.specs.Soft.{soft_bias3, rigid3, soft_impulse3}
use Rattle.constraint.specs.Velocity.{apply_point}

abbrev pub point_result : Vec3 → Velocities → Mark → PointRow
point_result impulse velocities mark = record { impulse = impulse; velocities = velocities; mark = mark }

unfoldable pub point_bias : Bool → Softness → Vec3 → Vec3 → Vec3 → Vec3 → Vec3 → SoftBias Vec3
point_bias is_soft s r_a r_b dc_a dc_b delta_center =
    let separation = add (add (sub dc_b dc_a) (sub r_b r_a)) delta_center in
    cond is_soft (soft_bias3 s separation) rigid3

-- the matrix with a mass added on its diagonal
abbrev pub add_mass : Matrix3 → Float → Matrix3
add_mass k mass =
    matrix3
    (vec3 (k.cx.x ⊕ mass) k.cx.y k.cx.z)
    (vec3 k.cy.x (k.cy.y ⊕ mass) k.cy.z)
    (vec3 k.cz.x k.cz.y (k.cz.z ⊕ mass))

unfoldable pub point_mass : InvMasses → Vec3 → Vec3 → Matrix3
point_mass m r_a r_b =
    let s_a = skew r_a in
    let s_b = skew r_b in
    let k_a = mul_mm s_a (mul_mm m.i_a s_a) in
    let k_b = mul_mm s_b (mul_mm m.i_b s_b) in
    add_mass (negate_mat3 (add_mm k_a k_b)) (m.m_a ⊕ m.m_b)

-- revolute and spherical subtract v_a, then w_a × r_a
unfoldable pub point_cdot : Vec3 → Vec3 → Velocities → Vec3
point_cdot r_a r_b v = sub (sub (add v.v_b (cross v.w_b r_b)) v.v_a) (cross v.w_a r_a)

-- weld groups (v_b + w_b × r_b) − (v_a + w_a × r_a)
unfoldable pub point_cdot_grouped : Vec3 → Vec3 → Velocities → Vec3
point_cdot_grouped r_a r_b v = sub (add v.v_b (cross v.w_b r_b)) (add v.v_a (cross v.w_a r_a))

-- the point row that the three kinds work, each with a bias of its own and its velocity error. (Revolute's definition writes out its impulse, of which the
-- operations are the same.)
unfoldable pub point_row_at : SoftBias Vec3 → Vec3 → Vec3 → Vec3 → Vec3 → InvMasses → Velocities → PointRow
point_row_at s cdot r_a r_b old_impulse m v =
    let k = point_mass m r_a r_b in
    let b = solve3 k (add cdot s.bias) in
    let impulse = soft_impulse3 s b old_impulse in
    point_result (add old_impulse impulse) (apply_point m r_a r_b impulse v) (solve3_mark k)
