-- joint/spherical.rs: prepare, warm start and solve of a ball joint. Definitions only. Assumes nothing.
use Rattle.std.specs.Prelude.{Bool, not, cond, Float, Option, Some}
use Rattle.sqrt.specs.Sqrt.{sqrt}
use Rattle.math_functions.specs.declared.types.Vec3.{Vec3}
use Rattle.math_functions.specs.declared.types.Quat.{Quat}
use Rattle.math_functions.specs.declared.types.Matrix3.{Matrix3}
use Rattle.math_functions.specs.declared.mark.Mark.{Mark}
use Rattle.math_functions.specs.Float.{◌⊕◌, ◌⊖◌, ◌⊗◌, ◌⊘◌, gt, zero}
use Rattle.math_functions.specs.Types.{vec3_zero, vec3_axis_z, mat3_zero}
use Rattle.math_functions.specs.Vector.{add, sub, neg, length, normalize, mul_add, mul_sub, mul_sv, cross}
use Rattle.math_functions.specs.Quat.{rotate_vector, inv_mul_quat}
use Rattle.math_functions.specs.Mark.{no_mark}
use Rattle.math_functions.specs.Matrix.{add_mm, mul_mv, invert_matrix, invert_matrix_mark}
use Rattle.math_functions.specs.Transform.{sub_pos}
use Rattle.solver.specs.declared.Softness.{Softness}
use Rattle.solver.specs.declared.StepContext.{StepContext}
use Rattle.solver.specs.Solver.{make_soft}
use Rattle.records.specs.declared.body.BodyRecord.{BodyRecord}
use Rattle.records.specs.declared.body.BodyState.{BodyState}
use Rattle.records.specs.declared.joint.JointBase.{JointBase}
use Rattle.records.specs.declared.joint.LimitAngles.{LimitAngles}
use Rattle.records.specs.declared.joint.JointSim.{JointSim}
use Rattle.records.specs.declared.joint.JointUnion.TheVariants.{Spherical}
use Rattle.records.specs.declared.joint.SphericalJoint.{SphericalJoint}
use Rattle.records.specs.Joint.{as_spherical, limit_angles, no_angles, joint_sim, after_solve, of_kind}
use Rattle.records.specs.Spherical.{Made, built, written_of, settings_of, with_written}
use Rattle.constraint.specs.declared.velocity.Velocities.{Velocities}
use Rattle.constraint.specs.declared.velocity.InvMasses.{InvMasses}
use Rattle.constraint.specs.declared.rotation.RelativeRotation.{RelativeRotation}
use Rattle.constraint.specs.declared.soft.SoftBias.{SoftBias}
use Rattle.constraint.specs.declared.angular.Row.{Row}
use Rattle.constraint.specs.declared.angular.LimitRows.{LimitRows}
use Rattle.constraint.specs.declared.angular.RowAxis.{RowAxis}
use Rattle.constraint.specs.declared.angular.TwistLimit.{TwistLimit}
use Rattle.constraint.specs.declared.point.PointRow.{PointRow}
use Rattle.constraint.specs.declared.kind.KindPrepared.{KindPrepared}
use Rattle.constraint.specs.declared.kind.KindSolved.{KindSolved}
use Rattle.constraint.specs.declared.answer.Report.{Report}
use Rattle.constraint.specs.Answer.{PreparedAnswer}
use Rattle.constraint.specs.Answer.{WarmStartedAnswer}
use Rattle.constraint.specs.Answer.{SolvedAnswer}
use Rattle.constraint.specs.Velocity.{velocities_of, inv_masses_of, apply_angular, apply_warm}
use Rattle.constraint.specs.Soft.{soft_bias3, limit_bias}
use Rattle.constraint.specs.Rotation.{relative_rotation, rotation_error}
use Rattle.constraint.specs.Angular.{row, row_axis, is_worked, twist_angle_if, swing_angle_if, upper_limit_row, angular_row, twist_limit_rows}
use Rattle.constraint.specs.Point.{point_bias, point_cdot, point_row_at}
use Rattle.constraint.specs.Prepare.{prepare_base, awake_index, prepare_frame, axial_mass}
use Rattle.constraint.specs.Answer.{prepared, not_prepared, warm_started, not_warm_started, report, solved, not_solved}

-- the joint with other impulses, and all else as it was: linear, spring, motor, lower twist, upper twist, swing
abbrev pub with_impulses : SphericalJoint → Vec3 → Vec3 → Vec3 → Float → Float → Float → SphericalJoint
with_impulses j linear spring motor lower_twist upper_twist swing =
    with_written j
    (record {
      linear_impulse = linear;
      spring_impulse = spring;
      motor_impulse = motor;
      lower_twist_impulse = lower_twist;
      upper_twist_impulse = upper_twist;
      swing_impulse = swing;
    })

-- ==== Prepare

-- swing values are stored only if the cone is on; older ones stay. The axis may be zero.
unfoldable pub prepare_swing : SphericalJoint → Matrix3 → Vec3 → Vec3 → RowAxis
prepare_swing j inv_inertia_sum cone_axis twist_axis =
    let axis = normalize (cross cone_axis twist_axis) in
    cond (not j.enable_cone_limit) (row_axis j.swing_axis j.swing_mass) (row_axis axis (axial_mass inv_inertia_sum axis))

unfoldable pub twist_jacobian : Quat → Quat → Vec3 → Vec3 → Vec3
twist_jacobian quat_a quat_b cone_axis twist_axis =
    let rel_q = inv_mul_quat quat_a quat_b in
    let x = rel_q.v.x in
    let y = rel_q.v.y in
    let z = rel_q.v.z in
    let tan_theta_over2 = sqrt ((x ⊗ x ⊕ y ⊗ y) ⊘ (z ⊗ z ⊕ rel_q.s ⊗ rel_q.s)) in
    let swing = normalize (cross cone_axis twist_axis) in
    let perp_axis = cross swing cone_axis in
    mul_add cone_axis tan_theta_over2 perp_axis

-- twist values likewise
unfoldable pub prepare_twist : SphericalJoint → Matrix3 → Quat → Quat → Vec3 → Vec3 → RowAxis
prepare_twist j inv_inertia_sum quat_a quat_b cone_axis twist_axis =
    let jac = twist_jacobian quat_a quat_b cone_axis twist_axis in
    cond (not j.enable_twist_limit) (row_axis j.twist_jacobian j.twist_mass) (row_axis jac (axial_mass inv_inertia_sum jac))

-- zero when rotation is fixed
unfoldable pub prepare_rotation_mass : Bool → Matrix3 → Matrix3
prepare_rotation_mass fixed_rotation inv_inertia_sum = cond (not fixed_rotation) (invert_matrix inv_inertia_sum) mat3_zero

-- C-15: the rotation mass's mark: 'a mass not inverted' has none
unfoldable pub rotation_mass_mark : Bool → Matrix3 → Option Mark
rotation_mass_mark fixed_rotation inv_inertia_sum = cond (not fixed_rotation) (Some (invert_matrix_mark inv_inertia_sum)) no_mark

-- document 01's prepare: impulses are cleared only if warm starting is off
unfoldable pub keep_impulses : SphericalJoint → Bool → SphericalJoint
keep_impulses j enable_warm_starting = cond (not enable_warm_starting) (with_impulses j vec3_zero vec3_zero vec3_zero zero zero zero) j

abbrev pub spherical_prepared : JointBase → SphericalJoint → Option Mark → KindPrepared SphericalJoint
spherical_prepared base joint mass_mark = record { base = base; joint = joint; mass_mark = mass_mark }

-- document 01's prepare, where delta_center is the difference of the centres. The cone axis is the z-axis of frame A, the twist axis that of frame B
unfoldable pub prepare_spherical : JointBase → SphericalJoint → Float → Bool → Vec3 → BodyRecord → BodyRecord → KindPrepared SphericalJoint
prepare_spherical base j h enable_warm_starting delta_center body_a body_b =
    let next = prepare_base base body_a body_b in
    let inv_inertia_sum = add_mm next.inv_i_a next.inv_i_b in
    let frame_a = prepare_frame body_a base.local_frame_a in
    let frame_b = prepare_frame body_b base.local_frame_b in
    let cone_axis = rotate_vector frame_a.q vec3_axis_z in
    let twist_axis = rotate_vector frame_b.q vec3_axis_z in
    let swing = prepare_swing j inv_inertia_sum cone_axis twist_axis in
    let twist = prepare_twist j inv_inertia_sum frame_a.q frame_b.q cone_axis twist_axis in
    let made : Made =
    record {
      frame_a = frame_a;
      frame_b = frame_b;
      delta_center = delta_center;
      swing_axis = swing.axis;
      twist_jacobian = twist.axis;
      rotation_mass = prepare_rotation_mass next.fixed_rotation inv_inertia_sum;
      swing_mass = swing.mass;
      twist_mass = twist.mass;
      spring_softness = make_soft j.hertz j.damping_ratio h;
    } in
    let out = built (written_of j) (settings_of j) (awake_index body_a) (awake_index body_b) made in
    spherical_prepared next (keep_impulses out enable_warm_starting) (rotation_mass_mark next.fixed_rotation inv_inertia_sum)

-- ==== Warm start

-- The swing impulse is subtracted. Of a state only the velocities and the delta rotation are read.
unfoldable pub warm_start_spherical : JointBase → SphericalJoint → BodyState → BodyState → Velocities
warm_start_spherical base j state_a state_b =
    let r_a = rotate_vector state_a.delta_rotation j.frame_a.p in
    let r_b = rotate_vector state_b.delta_rotation j.frame_b.p in
    let angular_impulse = add j.spring_impulse j.motor_impulse in
    let angular_impulse = mul_sub angular_impulse j.swing_impulse j.swing_axis in
    let angular_impulse = mul_add angular_impulse (j.lower_twist_impulse ⊖ j.upper_twist_impulse) j.twist_jacobian in
    apply_warm (inv_masses_of base) r_a r_b j.linear_impulse angular_impulse (velocities_of state_a state_b)

-- ==== Rows

-- Each takes the fields that it reads. The first parameter of a row that can be skipped says whether it is worked; if not, it leaves all as it was.

-- Spring. The error is minus the rotation to the target, turned into the world; the softness is the spring's own, with or without bias.
unfoldable pub spring_row : Bool → RelativeRotation → Quat → Softness → Matrix3 → Vec3 → InvMasses → Velocities → Row Vec3
spring_row worked rotation target_rotation spring_softness rotation_mass old_impulse m v =
    let c = rotation_error rotation target_rotation in
    cond (not worked) (row old_impulse v) (angular_row (soft_bias3 spring_softness c) rotation_mass old_impulse m v)

-- the motor's impulse before it is scaled
unfoldable pub motor_sum : Vec3 → Matrix3 → Vec3 → Velocities → Vec3
motor_sum motor_velocity mass old_impulse v =
    let cdot = sub v.w_b v.w_a in
    let lambda = neg (mul_mv mass (sub cdot motor_velocity)) in
    add old_impulse lambda

-- the impulse, scaled where it is longer than max_impulse
unfoldable pub limit_length : Vec3 → Float → Vec3
limit_length impulse max_impulse =
    let len = length impulse in
    cond (gt len max_impulse) (mul_sv (max_impulse ⊘ len) impulse) impulse

-- Motor: its impulse is a vector, scaled to the length max_motor_torque × h where it is longer (revolute's is a number, clamped).
unfoldable pub motor_row : Bool → Vec3 → Float → Float → Matrix3 → Vec3 → InvMasses → Velocities → Row Vec3
motor_row worked motor_velocity max_motor_torque h rotation_mass old_impulse m v =
    let impulse = limit_length (motor_sum motor_velocity rotation_mass old_impulse v) (max_motor_torque ⊗ h) in
    cond (not worked) (row old_impulse v) (row impulse (apply_angular m (sub impulse old_impulse) v))

-- Cone: an upper limit, about the swing axis. The gap is the cone's angle less the swing angle.
unfoldable pub cone_row : Bool → Float → Float → Softness → Float → Bool → Float → Vec3 → Float → InvMasses → Velocities → Row Float
cone_row worked swing_angle cone_angle s inv_h use_bias swing_mass swing_axis old_impulse m v =
    let c = cone_angle ⊖ swing_angle in
    cond (not worked) (row old_impulse v) (upper_limit_row (limit_bias c s inv_h use_bias) swing_mass swing_axis old_impulse m v)

-- Point, with its bias (`point_bias`: softened where the call has bias); worked with fixed rotation too.
abbrev pub point_row : SoftBias Vec3 → Vec3 → Vec3 → Vec3 → InvMasses → Velocities → PointRow
point_row s r_a r_b old_impulse m v = point_row_at s (point_cdot r_a r_b v) r_a r_b old_impulse m v

-- ==== Solve

-- where frame B stands relative to frame A. The second quaternion is not flipped (revolute's and weld's are)
unfoldable pub joint_rotation : SphericalJoint → BodyState → BodyState → RelativeRotation
joint_rotation j state_a state_b = relative_rotation state_a.delta_rotation j.frame_a.q state_b.delta_rotation j.frame_b.q

-- The rows at the fields of the joint and the states. All but the point row are skipped when rotation is fixed.

unfoldable pub solve_spring : Bool → SphericalJoint → RelativeRotation → InvMasses → Velocities → Row Vec3
solve_spring fixed_rotation j rotation m v =
    spring_row (is_worked j.enable_spring fixed_rotation) rotation j.target_rotation j.spring_softness j.rotation_mass
    j.spring_impulse m v

unfoldable pub solve_motor : Bool → SphericalJoint → Float → InvMasses → Velocities → Row Vec3
solve_motor fixed_rotation j h m v =
    motor_row (is_worked j.enable_motor fixed_rotation) j.motor_velocity j.max_motor_torque h j.rotation_mass j.motor_impulse m v

-- what the rows of the joint's twist limit are worked with, at a twist angle
abbrev pub twist_limit : SphericalJoint → Float → TwistLimit
twist_limit j angle =
    record {
      angle = angle;
      lower_angle = j.lower_twist_angle;
      upper_angle = j.upper_twist_angle;
      about = row_axis j.twist_jacobian j.twist_mass;
      lower_impulse = j.lower_twist_impulse;
      upper_impulse = j.upper_twist_impulse;
    }

unfoldable pub solve_limits : Bool → Softness → SphericalJoint → Float → Float → Bool → InvMasses → Velocities → LimitRows
solve_limits fixed_rotation softness j angle inv_h use_bias m v =
    twist_limit_rows (is_worked j.enable_twist_limit fixed_rotation) (twist_limit j angle) softness inv_h use_bias m v

unfoldable pub solve_cone : Bool → Softness → SphericalJoint → Float → Float → Bool → InvMasses → Velocities → Row Float
solve_cone fixed_rotation softness j swing_angle inv_h use_bias m v =
    cone_row (is_worked j.enable_cone_limit fixed_rotation) swing_angle j.cone_angle softness inv_h use_bias j.swing_mass j.swing_axis
    j.swing_impulse m v

-- the point row's bias, at the two anchors
unfoldable pub solve_bias : Softness → SphericalJoint → Vec3 → Vec3 → BodyState → BodyState → Bool → SoftBias Vec3
solve_bias softness j r_a r_b state_a state_b use_bias =
    point_bias use_bias softness r_a r_b state_a.delta_position state_b.delta_position j.delta_center

unfoldable pub solve_point : Softness → SphericalJoint → BodyState → BodyState → Bool → InvMasses → Velocities → PointRow
solve_point softness j state_a state_b use_bias m v =
    let r_a = rotate_vector state_a.delta_rotation j.frame_a.p in
    let r_b = rotate_vector state_b.delta_rotation j.frame_b.p in
    point_row (solve_bias softness j r_a r_b state_a state_b use_bias) r_a r_b j.linear_impulse m v

abbrev pub spherical_solved : SphericalJoint → LimitAngles → Velocities → Report → KindSolved SphericalJoint
spherical_solved joint angles velocities r = record { joint = joint; angles = angles; velocities = velocities; report = r }

-- document 01's rows of a spherical solve, in order: spring, motor, lower and upper twist, cone, point. C-11: the angles of the twist limit's rows and of the
-- cone's are stored. C-15: the mark of the point row is passed on; there is no perpendicular row
unfoldable pub solve_spherical : JointBase → SphericalJoint → Float → Float → BodyState → BodyState → Bool → KindSolved SphericalJoint
solve_spherical base j h inv_h state_a state_b use_bias =
    let m = inv_masses_of base in
    let fixed_rotation = base.fixed_rotation in
    let softness = base.constraint_softness in
    let rotation = joint_rotation j state_a state_b in
    let rel_q = rotation.rel_q in
    let spring = solve_spring fixed_rotation j rotation m (velocities_of state_a state_b) in
    let motor = solve_motor fixed_rotation j h m spring.velocities in
    let twist = twist_angle_if (is_worked j.enable_twist_limit fixed_rotation) rel_q in
    let swing = swing_angle_if (is_worked j.enable_cone_limit fixed_rotation) rel_q in
    let limits = solve_limits fixed_rotation softness j twist inv_h use_bias m motor.velocities in
    let cone = solve_cone fixed_rotation softness j swing inv_h use_bias m limits.velocities in
    let point = solve_point softness j state_a state_b use_bias m cone.velocities in
    spherical_solved
    (with_impulses j point.impulse spring.impulse motor.impulse limits.lower_impulse limits.upper_impulse cone.impulse)
    (limit_angles twist swing)
    point.velocities
    (report no_mark (Some point.mark))

-- ==== The stages over a joint of any kind

-- A joint whose case is not Spherical gets number 1, place 0, and nothing is altered.

-- of the context h and enable_warm_starting. C-11: 'prepare stores NaN in both'. C-15: the rotation mass's mark is passed on
unfoldable pub prepare_spherical_joint : JointSim → StepContext → BodyRecord → BodyRecord → PreparedAnswer
prepare_spherical_joint sim context body_a body_b =
    of_kind (as_spherical sim.union_) (not_prepared sim) λ j.
    let delta_center = sub_pos body_b.center body_a.center in
    let r = prepare_spherical sim.base j context.h context.enable_warm_starting delta_center body_a body_b in
    prepared (joint_sim r.base (Spherical r.joint) no_angles) r.mass_mark

unfoldable pub warm_start_spherical_joint : JointSim → BodyState → BodyState → WarmStartedAnswer
warm_start_spherical_joint sim state_a state_b =
    of_kind (as_spherical sim.union_) (not_warm_started sim state_a state_b) λ j. warm_started sim (warm_start_spherical sim.base j state_a state_b)

-- of the context h and inv_h
unfoldable pub solve_spherical_joint : JointSim → StepContext → BodyState → BodyState → Bool → SolvedAnswer
solve_spherical_joint sim context state_a state_b use_bias =
    of_kind (as_spherical sim.union_) (not_solved sim state_a state_b) λ j.
    let r = solve_spherical sim.base j context.h context.inv_h state_a state_b use_bias in
    solved (after_solve sim (Spherical r.joint) r.angles) r.velocities r.report
