-- joint/weld.rs: prepare, warm start and solve of a weld joint. Definitions only. Assumes nothing.
use Rattle.std.specs.Prelude.{Bool, not, cond, ◌||◌, Float, Option, Some}
use Rattle.math_functions.specs.declared.types.Vec3.{Vec3}
use Rattle.math_functions.specs.declared.types.Matrix3.{Matrix3}
use Rattle.math_functions.specs.declared.mark.Mark.{Mark}
use Rattle.math_functions.specs.Float.{gt, eq, zero}
use Rattle.math_functions.specs.Types.{vec3_zero, quat_identity}
use Rattle.math_functions.specs.Quat.{rotate_vector}
use Rattle.math_functions.specs.Mark.{no_mark}
use Rattle.math_functions.specs.Matrix.{add_mm, invert_matrix, invert_matrix_mark}
use Rattle.math_functions.specs.Transform.{sub_pos}
use Rattle.solver.specs.declared.Softness.{Softness}
use Rattle.solver.specs.declared.StepContext.{StepContext}
use Rattle.solver.specs.Solver.{make_soft}
use Rattle.records.specs.declared.body.BodyState.{BodyState}
use Rattle.records.specs.declared.body.BodyRecord.{BodyRecord}
use Rattle.records.specs.declared.joint.WeldJoint.{WeldJoint}
use Rattle.records.specs.declared.joint.JointBase.{JointBase}
use Rattle.records.specs.declared.joint.JointSim.{JointSim}
use Rattle.records.specs.declared.joint.JointUnion.TheVariants.{Weld}
use Rattle.records.specs.Weld.{built, written_of, settings_of, with_written}
use Rattle.records.specs.Joint.{as_weld, no_angles, joint_sim, after_solve, of_kind}
use Rattle.constraint.specs.declared.velocity.Velocities.{Velocities}
use Rattle.constraint.specs.declared.velocity.InvMasses.{InvMasses}
use Rattle.constraint.specs.declared.soft.SoftBias.{SoftBias}
use Rattle.constraint.specs.declared.rotation.RelativeRotation.{RelativeRotation}
use Rattle.constraint.specs.declared.angular.Row.{Row}
use Rattle.constraint.specs.declared.point.PointRow.{PointRow}
use Rattle.constraint.specs.declared.kind.KindPrepared.{KindPrepared}
use Rattle.constraint.specs.declared.kind.KindSolved.{KindSolved}
use Rattle.constraint.specs.declared.answer.Report.{Report}
use Rattle.constraint.specs.Answer.{PreparedAnswer}
use Rattle.constraint.specs.Answer.{WarmStartedAnswer}
use Rattle.constraint.specs.Answer.{SolvedAnswer}
use Rattle.constraint.specs.Velocity.{velocities_of, inv_masses_of, apply_warm}
use Rattle.constraint.specs.Soft.{soft_bias3, rigid3}
use Rattle.constraint.specs.Rotation.{flipped_relative_rotation, rotation_error}
use Rattle.constraint.specs.Angular.{row, angular_row}
use Rattle.constraint.specs.Point.{point_bias, point_cdot_grouped, point_row_at}
use Rattle.constraint.specs.Prepare.{prepare_base, awake_index, prepare_frame}
use Rattle.constraint.specs.Answer.{prepared, not_prepared, warm_started, not_warm_started, report, solved, not_solved}

-- the joint with other impulses, and all else as it was: linear, angular
abbrev pub with_impulses : WeldJoint → Vec3 → Vec3 → WeldJoint
with_impulses j linear_impulse angular_impulse = with_written j (record { linear_impulse = linear_impulse; angular_impulse = angular_impulse })

-- ==== Prepare

-- document 01's prepare: weld takes the joint's own softness (constraint_softness) where a hertz is 0.0, which -0.0 equals
unfoldable pub row_spring : Float → Float → Float → Softness → Softness
row_spring hertz damping_ratio h constraint_softness = cond (eq hertz zero) constraint_softness (make_soft hertz damping_ratio h)

-- document 01's prepare: impulses are cleared only if warm starting is off
unfoldable pub keep_impulses : WeldJoint → Bool → WeldJoint
keep_impulses j enable_warm_starting = cond (not enable_warm_starting) (with_impulses j vec3_zero vec3_zero) j

abbrev pub weld_prepared : JointBase → WeldJoint → Option Mark → KindPrepared WeldJoint
weld_prepared base joint mass_mark = record { base = base; joint = joint; mass_mark = mass_mark }

-- document 01's prepare, where delta_center is the difference of the centres. The angular mass is inverted whether or not rotation is fixed
unfoldable pub prepare_weld : JointBase → WeldJoint → Float → Bool → Vec3 → BodyRecord → BodyRecord → KindPrepared WeldJoint
prepare_weld base j h enable_warm_starting delta_center body_a body_b =
    let softness = base.constraint_softness in
    let inv_inertia_sum = add_mm body_a.inv_inertia_world body_b.inv_inertia_world in
    let joint =
    built (written_of j) (settings_of j) (awake_index body_a) (awake_index body_b)
    (record {
      linear_spring = row_spring j.linear_hertz j.linear_damping_ratio h softness;
      angular_spring = row_spring j.angular_hertz j.angular_damping_ratio h softness;
      frame_a = prepare_frame body_a base.local_frame_a;
      frame_b = prepare_frame body_b base.local_frame_b;
      delta_center = delta_center;
      angular_mass = invert_matrix inv_inertia_sum;
    }) in
    weld_prepared (prepare_base base body_a body_b) (keep_impulses joint enable_warm_starting) (Some (invert_matrix_mark inv_inertia_sum))

-- ==== Warm start

-- the angular impulse as it is: the other kinds add theirs up from the rows'
unfoldable pub warm_start_weld : JointBase → WeldJoint → BodyState → BodyState → Velocities
warm_start_weld base j state_a state_b =
    let r_a = rotate_vector state_a.delta_rotation j.frame_a.p in
    let r_b = rotate_vector state_b.delta_rotation j.frame_b.p in
    apply_warm (inv_masses_of base) r_a r_b j.linear_impulse j.angular_impulse (velocities_of state_a state_b)

-- ==== Rows

-- Each takes the fields that it reads. The first parameter of a row that can be skipped says whether it is worked; if not, it leaves all as it was.

-- document 01: a weld row also uses its softness without bias if its own hertz is above zero
unfoldable pub is_soft : Bool → Float → Bool
is_soft use_bias hertz = use_bias || gt hertz zero

-- the error is minus the rotation that takes rel_q to the identity, turned into the world by quat_a
unfoldable pub angular_bias : Bool → Softness → RelativeRotation → SoftBias Vec3
angular_bias soft s rotation =
    cond soft (soft_bias3 s (rotation_error rotation quat_identity)) rigid3

-- document 01's angular row, skipped when rotation is fixed
unfoldable pub weld_angular_row : Bool → RelativeRotation → Bool → Float → Softness → Matrix3 → Vec3 → InvMasses → Velocities → Row Vec3
weld_angular_row worked rotation use_bias hertz s mass old_impulse m v =
    cond (not worked) (row old_impulse v) (angular_row (angular_bias (is_soft use_bias hertz) s rotation) mass old_impulse m v)

-- document 01's point row, with its bias; worked also when rotation is fixed. The velocity error is grouped, unlike revolute's and spherical's
abbrev pub point_row : SoftBias Vec3 → Vec3 → Vec3 → Vec3 → InvMasses → Velocities → PointRow
point_row s r_a r_b old_impulse m v = point_row_at s (point_cdot_grouped r_a r_b v) r_a r_b old_impulse m v

-- ==== Solve

-- where frame B stands relative to frame A. The second quaternion is flipped (spherical's is not)
unfoldable pub joint_rotation : WeldJoint → BodyState → BodyState → RelativeRotation
joint_rotation j state_a state_b = flipped_relative_rotation state_a.delta_rotation j.frame_a.q state_b.delta_rotation j.frame_b.q

-- The rows at the fields of the joint and the states. The angular row is skipped when rotation is fixed.

unfoldable pub solve_angular : Bool → WeldJoint → RelativeRotation → Bool → InvMasses → Velocities → Row Vec3
solve_angular fixed_rotation j rotation use_bias m v =
    weld_angular_row (not fixed_rotation) rotation use_bias j.angular_hertz j.angular_spring j.angular_mass j.angular_impulse m v

-- the point row's bias, where r_a and r_b reach from the centres to the anchors
unfoldable pub solve_bias : WeldJoint → Vec3 → Vec3 → BodyState → BodyState → Bool → SoftBias Vec3
solve_bias j r_a r_b state_a state_b use_bias =
    let soft = is_soft use_bias j.linear_hertz in
    point_bias soft j.linear_spring r_a r_b state_a.delta_position state_b.delta_position j.delta_center

unfoldable pub solve_point : WeldJoint → BodyState → BodyState → Bool → InvMasses → Velocities → PointRow
solve_point j state_a state_b use_bias m v =
    let r_a = rotate_vector state_a.delta_rotation j.frame_a.p in
    let r_b = rotate_vector state_b.delta_rotation j.frame_b.p in
    point_row (solve_bias j r_a r_b state_a state_b use_bias) r_a r_b j.linear_impulse m v

abbrev pub weld_solved : WeldJoint → Velocities → Report → KindSolved WeldJoint
weld_solved joint velocities r = record { joint = joint; angles = no_angles; velocities = velocities; report = r }

-- document 01's rows of a weld solve, in order: angular, point. C-15: the mark of the point row is passed on; there is no perpendicular row
unfoldable pub solve_weld : JointBase → WeldJoint → BodyState → BodyState → Bool → KindSolved WeldJoint
solve_weld base j state_a state_b use_bias =
    let m = inv_masses_of base in
    let rotation = joint_rotation j state_a state_b in
    let angular = solve_angular base.fixed_rotation j rotation use_bias m (velocities_of state_a state_b) in
    let point = solve_point j state_a state_b use_bias m angular.velocities in
    weld_solved (with_impulses j point.impulse angular.impulse) point.velocities (report no_mark (Some point.mark))

-- ==== The stages over a joint of any kind

-- A joint whose case is not Weld gets number 1, place 0, and nothing is altered.

-- of the context h and enable_warm_starting. C-11: 'prepare stores NaN in both'. C-15: the angular mass's mark is passed on
unfoldable pub prepare_weld_joint : JointSim → StepContext → BodyRecord → BodyRecord → PreparedAnswer
prepare_weld_joint sim context body_a body_b =
    of_kind (as_weld sim.union_) (not_prepared sim) λ j.
    let delta_center = sub_pos body_b.center body_a.center in
    let r = prepare_weld sim.base j context.h context.enable_warm_starting delta_center body_a body_b in
    prepared (joint_sim r.base (Weld r.joint) no_angles) r.mass_mark

unfoldable pub warm_start_weld_joint : JointSim → BodyState → BodyState → WarmStartedAnswer
warm_start_weld_joint sim state_a state_b =
    of_kind (as_weld sim.union_) (not_warm_started sim state_a state_b) λ j. warm_started sim (warm_start_weld sim.base j state_a state_b)

-- of the context nothing. C-11: a weld has no limit row, so that its solve stores NaN in both
unfoldable pub solve_weld_joint : JointSim → StepContext → BodyState → BodyState → Bool → SolvedAnswer
solve_weld_joint sim context state_a state_b use_bias =
    of_kind (as_weld sim.union_) (not_solved sim state_a state_b) λ j.
    let r = solve_weld sim.base j state_a state_b use_bias in
    solved (after_solve sim (Weld r.joint) no_angles) r.velocities r.report
