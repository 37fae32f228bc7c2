-- joint/revolute.rs: prepare, warm start and solve of a revolute joint. Definitions only. Assumes nothing.
use Rattle.std.specs.Prelude.{Bool, not, cond, Float, Option, Some}
use Rattle.std.specs.Float.{nan}
use Rattle.math_functions.specs.declared.types.Vec2.{Vec2}
use Rattle.math_functions.specs.declared.types.Vec3.{Vec3}
use Rattle.math_functions.specs.declared.types.Quat.{Quat}
use Rattle.math_functions.specs.declared.types.Matrix3.{Matrix3}
use Rattle.math_functions.specs.declared.mark.Mark.{Mark}
use Rattle.math_functions.specs.declared.matrix.Mat2.{Mat2}
use Rattle.math_functions.specs.Float.{◌⊕◌, ◌⊖◌, ◌⊗◌, neg, lit, zero}
use Rattle.math_functions.specs.Types.{vec2, mat2, vec2_zero, vec3_zero, vec3_axis_x, vec3_axis_y, vec3_axis_z}
use Rattle.math_functions.specs.Scalar.{clamp_float}
use Rattle.math_functions.specs.Vector.{add, sub, dot, mul_add, mul_sv, cross}
use Rattle.math_functions.specs.Internal.{add2}
use Rattle.math_functions.specs.Quat.{rotate_vector, inv_mul_quat, get_twist_angle}
use Rattle.math_functions.specs.Mark.{no_mark}
use Rattle.math_functions.specs.Matrix.{add_mm, mul_mv, solve2, solve2_mark, solve3, solve3_mark}
use Rattle.math_functions.specs.Transform.{sub_pos}
use Rattle.solver.specs.declared.Softness.{Softness}
use Rattle.solver.specs.declared.StepContext.{StepContext}
use Rattle.solver.specs.Solver.{make_soft}
use Rattle.records.specs.declared.body.BodyState.{BodyState}
use Rattle.records.specs.declared.body.BodyRecord.{BodyRecord}
use Rattle.records.specs.declared.joint.RevoluteJoint.{RevoluteJoint}
use Rattle.records.specs.declared.joint.JointBase.{JointBase}
use Rattle.records.specs.declared.joint.LimitAngles.{LimitAngles}
use Rattle.records.specs.declared.joint.JointSim.{JointSim}
use Rattle.records.specs.declared.joint.JointUnion.TheVariants.{Revolute}
use Rattle.records.specs.Joint.{as_revolute, limit_angles, no_angles, joint_sim, after_solve, of_kind}
use Rattle.records.specs.Revolute.{Written, Made, built, settings_of, with_written}
use Rattle.constraint.specs.declared.velocity.Velocities.{Velocities}
use Rattle.constraint.specs.declared.velocity.InvMasses.{InvMasses}
use Rattle.constraint.specs.declared.rotation.RelativeRotation.{RelativeRotation}
use Rattle.constraint.specs.declared.soft.SoftBias.{SoftBias}
use Rattle.constraint.specs.declared.angular.Row.{Row}
use Rattle.constraint.specs.declared.angular.LimitRows.{LimitRows}
use Rattle.constraint.specs.declared.angular.TwistLimit.{TwistLimit}
use Rattle.constraint.specs.declared.point.PointRow.{PointRow}
use Rattle.constraint.specs.declared.kind.KindPrepared.{KindPrepared}
use Rattle.constraint.specs.declared.kind.KindSolved.{KindSolved}
use Rattle.constraint.specs.declared.answer.Report.{Report}
use Rattle.constraint.specs.Answer.{PreparedAnswer}
use Rattle.constraint.specs.Answer.{WarmStartedAnswer}
use Rattle.constraint.specs.Answer.{SolvedAnswer}
use Rattle.constraint.specs.Velocity.{velocities_of, inv_masses_of, apply_axial, apply_angular, apply_point, apply_warm}
use Rattle.constraint.specs.Soft.{soft_bias, soft_bias2, soft_impulse, soft_impulse2_products, soft_impulse3_products, rigid2}
use Rattle.constraint.specs.Rotation.{flipped_relative_rotation}
use Rattle.constraint.specs.Angular.{row, row_axis, is_worked, twist_angle_if, twist_limit_rows}
use Rattle.constraint.specs.Point.{point_result, point_bias, point_mass, point_cdot}
use Rattle.constraint.specs.Prepare.{prepare_base, prepare_frame, awake_index, axial_mass}
use Rattle.constraint.specs.Answer.{prepared, not_prepared, warm_started, not_warm_started, report, solved, not_solved}
use Rattle.revolute.specs.declared.prepare.PerpAxes.{PerpAxes}
use Rattle.revolute.specs.declared.rows.PerpRow.{PerpRow}

-- the joint with other impulses and other perpendicular axes, and all else as it was: linear, perp, spring, motor, lower, upper, axis X, axis Y
abbrev pub with_impulses : RevoluteJoint → Vec3 → Vec2 → Float → Float → Float → Float → Vec3 → Vec3 → RevoluteJoint
with_impulses j linear_impulse perp_impulse spring_impulse motor_impulse lower_impulse upper_impulse perp_axis_x perp_axis_y =
    with_written j
    (record {
      linear_impulse = linear_impulse;
      perp_impulse = perp_impulse;
      spring_impulse = spring_impulse;
      motor_impulse = motor_impulse;
      lower_impulse = lower_impulse;
      upper_impulse = upper_impulse;
      perp_axis_x = perp_axis_x;
      perp_axis_y = perp_axis_y;
    })

-- ==== Prepare

-- 0.5
abbrev pub half : Float
half = lit 0x3f00_0000

-- one of the two perpendicular axes, for the X axis and for the Y axis alike
unfoldable pub perp_axis : Quat → Quat → Vec3 → Vec3
perp_axis q rel_q axis = mul_sv half (rotate_vector q (add (mul_sv rel_q.s axis) (cross rel_q.v axis)))

abbrev pub perp_axes : Quat → Quat → PerpAxes
perp_axes q rel_q = record { x = perp_axis q rel_q vec3_axis_x; y = perp_axis q rel_q vec3_axis_y }

-- what a solve writes, as the joint has it but for the perpendicular axes
abbrev pub written_with_axes : RevoluteJoint → Vec3 → Vec3 → Written
written_with_axes j perp_axis_x perp_axis_y =
    record {
      linear_impulse = j.linear_impulse;
      perp_impulse = j.perp_impulse;
      spring_impulse = j.spring_impulse;
      motor_impulse = j.motor_impulse;
      lower_impulse = j.lower_impulse;
      upper_impulse = j.upper_impulse;
      perp_axis_x = perp_axis_x;
      perp_axis_y = perp_axis_y;
    }

-- document 01's prepare: impulses are cleared only if warm starting is off
unfoldable pub keep_impulses : RevoluteJoint → Bool → RevoluteJoint
keep_impulses j enable_warm_starting =
    cond (not enable_warm_starting) (with_impulses j vec3_zero vec2_zero zero zero zero zero j.perp_axis_x j.perp_axis_y) j

abbrev pub revolute_prepared : JointBase → RevoluteJoint → KindPrepared RevoluteJoint
revolute_prepared base joint = record { base = base; joint = joint; mass_mark = no_mark }

-- document 01's prepare, where delta_center is the difference of the centres. The rotation axis is the z-axis of frame A; delta_angle stays
unfoldable pub prepare_revolute : JointBase → RevoluteJoint → Float → Bool → Vec3 → BodyRecord → BodyRecord → KindPrepared RevoluteJoint
prepare_revolute base j h enable_warm_starting delta_center body_a body_b =
    let inv_inertia_sum = add_mm body_a.inv_inertia_world body_b.inv_inertia_world in
    let frame_a = prepare_frame body_a base.local_frame_a in
    let frame_b = prepare_frame body_b base.local_frame_b in
    let rotation_axis_z = rotate_vector frame_a.q vec3_axis_z in
    let rel_q = inv_mul_quat frame_a.q frame_b.q in
    let written = written_with_axes j (perp_axis frame_a.q rel_q vec3_axis_x) (perp_axis frame_a.q rel_q vec3_axis_y) in
    let made : Made =
    record {
      frame_a = frame_a;
      frame_b = frame_b;
      rotation_axis_z = rotation_axis_z;
      delta_center = delta_center;
      delta_angle = j.delta_angle;
      axial_mass = axial_mass inv_inertia_sum rotation_axis_z;
      spring_softness = make_soft j.hertz j.damping_ratio h;
    } in
    let joint = built written (settings_of j) (awake_index body_a) (awake_index body_b) made in
    revolute_prepared (prepare_base base body_a body_b) (keep_impulses joint enable_warm_starting)

-- ==== Warm start

-- what an impulse about the two perpendicular axes is in the world
unfoldable pub perp_angular_impulse : Vec2 → Vec3 → Vec3 → Vec3
perp_angular_impulse impulse axis_x axis_y = add (mul_sv impulse.x axis_x) (mul_sv impulse.y axis_y)

-- the angular impulse of all rows but the point row: the upper limit's is subtracted
unfoldable pub warm_angular_impulse : RevoluteJoint → Vec3
warm_angular_impulse j =
    let axial_impulse = j.spring_impulse ⊕ j.motor_impulse ⊕ j.lower_impulse ⊖ j.upper_impulse in
    mul_add (perp_angular_impulse j.perp_impulse j.perp_axis_x j.perp_axis_y) axial_impulse j.rotation_axis_z

-- the linear impulse with the angular impulse
unfoldable pub warm_start_revolute : JointBase → RevoluteJoint → BodyState → BodyState → Velocities
warm_start_revolute base j state_a state_b =
    let r_a = rotate_vector state_a.delta_rotation j.frame_a.p in
    let r_b = rotate_vector state_b.delta_rotation j.frame_b.p in
    apply_warm (inv_masses_of base) r_a r_b j.linear_impulse (warm_angular_impulse j) (velocities_of state_a state_b)

-- ==== Rows

-- Each takes the fields that it reads. The first parameter of a row that can be skipped says whether it is worked; if not, it leaves all as it was.

-- document 01's spring: of one dimension, about the rotation axis (spherical's is of three)
unfoldable pub spring_row : Bool → Quat → Float → Softness → Float → Vec3 → Float → InvMasses → Velocities → Row Float
spring_row worked rel_q target_angle softness mass axis old_impulse m v =
    let c = get_twist_angle rel_q ⊖ target_angle in
    let cdot = dot (sub v.w_b v.w_a) axis in
    let delta_impulse = soft_impulse (soft_bias softness c) mass cdot old_impulse in
    cond (not worked) (row old_impulse v) (row (old_impulse ⊕ delta_impulse) (apply_axial m delta_impulse axis v))

-- the motor's impulse before it is clamped
unfoldable pub motor_sum : Float → Float → Vec3 → Float → Velocities → Float
motor_sum motor_speed mass axis old_impulse v =
    let cdot = dot (sub v.w_b v.w_a) axis ⊖ motor_speed in
    old_impulse ⊕ neg mass ⊗ cdot

-- document 01's motor: the impulse is clamped by its two signs (spherical's by its length)
unfoldable pub motor_row : Bool → Float → Float → Float → Float → Vec3 → Float → InvMasses → Velocities → Row Float
motor_row worked motor_speed max_motor_torque h mass axis old_impulse m v =
    let max_impulse = max_motor_torque ⊗ h in
    let new_impulse = clamp_float (motor_sum motor_speed mass axis old_impulse v) (neg max_impulse) max_impulse in
    cond (not worked) (row old_impulse v) (row new_impulse (apply_axial m (new_impulse ⊖ old_impulse) axis v))

-- soft only where the call has bias
unfoldable pub perp_bias : Bool → Softness → Quat → SoftBias Vec2
perp_bias use_bias softness rel_q = cond use_bias (soft_bias2 softness (vec2 rel_q.v.x rel_q.v.y)) rigid2

-- the 2-by-2 matrix that is solved
unfoldable pub perp_mass : Matrix3 → Vec3 → Vec3 → Mat2
perp_mass inv_inertia_sum axis_x axis_y =
    let kxx = dot axis_x (mul_mv inv_inertia_sum axis_x) in
    let kyy = dot axis_y (mul_mv inv_inertia_sum axis_y) in
    let kxy = dot axis_x (mul_mv inv_inertia_sum axis_y) in
    mat2 (vec2 kxx kxy) (vec2 kxy kyy)

abbrev pub perp_result : Vec2 → Vec3 → Vec3 → Velocities → Option Mark → PerpRow
perp_result impulse axis_x axis_y velocities mark =
    record { perp_impulse = impulse; axes = record { x = axis_x; y = axis_y }; velocities = velocities; mark = mark }

-- the 2-by-2 solve, once the two axes are known, and its mark. As in the point row, two products are subtracted
unfoldable pub collinear_row : SoftBias Vec2 → Vec3 → Vec3 → Vec2 → InvMasses → Velocities → PerpRow
collinear_row s axis_x axis_y old_impulse m v =
    let k = perp_mass (add_mm m.i_a m.i_b) axis_x axis_y in
    let w_rel = sub v.w_b v.w_a in
    let cdot = vec2 (dot w_rel axis_x) (dot w_rel axis_y) in
    let sol = solve2 k (add2 cdot s.bias) in
    let delta_impulse = soft_impulse2_products s sol old_impulse in
    perp_result (add2 old_impulse delta_impulse) axis_x axis_y (apply_angular m (perp_angular_impulse delta_impulse axis_x axis_y) v)
    (Some (solve2_mark k))

-- document 01's two perpendicular axes: no switch, and new axes for the warm start. C-15: 'a row not worked' has no mark
unfoldable pub perp_row : Bool → RelativeRotation → Softness → Bool → Vec3 → Vec3 → Vec2 → InvMasses → Velocities → PerpRow
perp_row worked rotation softness use_bias old_axis_x old_axis_y old_impulse m v =
    let s = perp_bias use_bias softness rotation.rel_q in
    let axis_x = perp_axis rotation.quat_a rotation.rel_q vec3_axis_x in
    let axis_y = perp_axis rotation.quat_a rotation.rel_q vec3_axis_y in
    cond (not worked) (perp_result old_impulse old_axis_x old_axis_y v no_mark) (collinear_row s axis_x axis_y old_impulse m v)

-- document 01's point row, never skipped. Soft only where the call has bias; two products are subtracted
unfoldable pub point_row : Bool → Softness → Vec3 → Vec3 → Vec3 → Vec3 → Vec3 → Vec3 → InvMasses → Velocities → PointRow
point_row use_bias softness r_a r_b dc_a dc_b delta_center old_impulse m v =
    let cdot = point_cdot r_a r_b v in
    let s = point_bias use_bias softness r_a r_b dc_a dc_b delta_center in
    let k = point_mass m r_a r_b in
    let b = solve3 k (add cdot s.bias) in
    let impulse = soft_impulse3_products s b old_impulse in
    point_result (add old_impulse impulse) (apply_point m r_a r_b impulse v) (solve3_mark k)

-- ==== Solve

-- where frame B stands relative to frame A. The second quaternion is flipped (spherical's is not)
unfoldable pub joint_rotation : RevoluteJoint → BodyState → BodyState → RelativeRotation
joint_rotation j state_a state_b = flipped_relative_rotation state_a.delta_rotation j.frame_a.q state_b.delta_rotation j.frame_b.q

-- The rows at the fields of the joint and the states. All but the point row are skipped when rotation is fixed.

unfoldable pub solve_spring : Bool → RevoluteJoint → Quat → InvMasses → Velocities → Row Float
solve_spring fixed_rotation j rel_q m v =
    spring_row (is_worked j.enable_spring fixed_rotation) rel_q j.target_angle j.spring_softness j.axial_mass j.rotation_axis_z
    j.spring_impulse m v

unfoldable pub solve_motor : Bool → RevoluteJoint → Float → InvMasses → Velocities → Row Float
solve_motor fixed_rotation j h m v =
    motor_row (is_worked j.enable_motor fixed_rotation) j.motor_speed j.max_motor_torque h j.axial_mass j.rotation_axis_z
    j.motor_impulse m v

-- what the rows of the joint's limit are worked with, at a twist angle
abbrev pub twist_limit : RevoluteJoint → Float → TwistLimit
twist_limit j angle =
    record {
      angle = angle;
      lower_angle = j.lower_angle;
      upper_angle = j.upper_angle;
      about = row_axis j.rotation_axis_z j.axial_mass;
      lower_impulse = j.lower_impulse;
      upper_impulse = j.upper_impulse;
    }

unfoldable pub solve_limits : Bool → Softness → RevoluteJoint → Float → Float → Bool → InvMasses → Velocities → LimitRows
solve_limits fixed_rotation softness j angle inv_h use_bias m v =
    twist_limit_rows (is_worked j.enable_limit fixed_rotation) (twist_limit j angle) softness inv_h use_bias m v

unfoldable pub solve_perp : Bool → Softness → RevoluteJoint → RelativeRotation → Bool → InvMasses → Velocities → PerpRow
solve_perp fixed_rotation softness j rotation use_bias m v =
    perp_row (not fixed_rotation) rotation softness use_bias j.perp_axis_x j.perp_axis_y j.perp_impulse m v

unfoldable pub solve_point : Softness → RevoluteJoint → BodyState → BodyState → Bool → InvMasses → Velocities → PointRow
solve_point softness j state_a state_b use_bias m v =
    let r_a = rotate_vector state_a.delta_rotation j.frame_a.p in
    let r_b = rotate_vector state_b.delta_rotation j.frame_b.p in
    point_row use_bias softness r_a r_b state_a.delta_position state_b.delta_position j.delta_center j.linear_impulse m v

abbrev pub revolute_solved : RevoluteJoint → LimitAngles → Velocities → Report → KindSolved RevoluteJoint
revolute_solved joint angles velocities r = record { joint = joint; angles = angles; velocities = velocities; report = r }

-- document 01's rows of a solve, in order: spring, motor, lower, upper, two perpendicular axes, point. C-11: the angle of the limit's rows is stored as the
-- twist, and NaN as the swing: there is no cone. C-15: the marks of the perpendicular and the point row are passed on
unfoldable pub solve_revolute : JointBase → RevoluteJoint → Float → Float → BodyState → BodyState → Bool → KindSolved RevoluteJoint
solve_revolute base j h inv_h state_a state_b use_bias =
    let m = inv_masses_of base in
    let fixed_rotation = base.fixed_rotation in
    let softness = base.constraint_softness in
    let rotation = joint_rotation j state_a state_b in
    let spring = solve_spring fixed_rotation j rotation.rel_q m (velocities_of state_a state_b) in
    let motor = solve_motor fixed_rotation j h m spring.velocities in
    let angle = twist_angle_if (is_worked j.enable_limit fixed_rotation) rotation.rel_q in
    let limits = solve_limits fixed_rotation softness j angle inv_h use_bias m motor.velocities in
    let perp = solve_perp fixed_rotation softness j rotation use_bias m limits.velocities in
    let point = solve_point softness j state_a state_b use_bias m perp.velocities in
    revolute_solved
    (with_impulses j point.impulse perp.perp_impulse spring.impulse motor.impulse limits.lower_impulse limits.upper_impulse
    perp.axes.x perp.axes.y)
    (limit_angles angle nan)
    point.velocities
    (report perp.mark (Some point.mark))

-- ==== The stages over a joint of any kind

-- A joint whose case is not Revolute gets number 1, place 0, and nothing is altered.

-- of the context h and enable_warm_starting. C-11: 'prepare stores NaN in both'. C-15: no mass is inverted
unfoldable pub prepare_revolute_joint : JointSim → StepContext → BodyRecord → BodyRecord → PreparedAnswer
prepare_revolute_joint sim context body_a body_b =
    of_kind (as_revolute sim.union_) (not_prepared sim) λ j.
    let delta_center = sub_pos body_b.center body_a.center in
    let r = prepare_revolute sim.base j context.h context.enable_warm_starting delta_center body_a body_b in
    prepared (joint_sim r.base (Revolute r.joint) no_angles) no_mark

unfoldable pub warm_start_revolute_joint : JointSim → BodyState → BodyState → WarmStartedAnswer
warm_start_revolute_joint sim state_a state_b =
    of_kind (as_revolute sim.union_) (not_warm_started sim state_a state_b) λ j. warm_started sim (warm_start_revolute sim.base j state_a state_b)

-- of the context h and inv_h
unfoldable pub solve_revolute_joint : JointSim → StepContext → BodyState → BodyState → Bool → SolvedAnswer
solve_revolute_joint sim context state_a state_b use_bias =
    of_kind (as_revolute sim.union_) (not_solved sim state_a state_b) λ j.
    let r = solve_revolute sim.base j context.h context.inv_h state_a state_b use_bias in
    solved (after_solve sim (Revolute r.joint) r.angles) r.velocities r.report
