-- One name for all that the checker opens to compute a stage of a joint: to open it is to open what its line names. Assumes nothing.
use lib.Ieee as Ieee
use Rattle.sqrt.specs.Sqrt as Root
use Rattle.math_functions.specs.Scalar as Scalar
use Rattle.math_functions.specs.Vector as Vector
use Rattle.math_functions.specs.Internal as Internal
use Rattle.math_functions.specs.Quat as Quat
use Rattle.math_functions.specs.Matrix as Matrix
use Rattle.math_functions.specs.Transform as Transform
use Rattle.solver.specs.Solver as Solver
use Rattle.records.specs.Body as Body
use Rattle.constraint.specs.Velocity as Velocity
use Rattle.constraint.specs.Soft as Soft
use Rattle.constraint.specs.Rotation as Rotation
use Rattle.constraint.specs.Angular as Angular
use Rattle.constraint.specs.Point as Point
use Rattle.constraint.specs.Prepare as Prepare
use Rattle.revolute.specs.Revolute as R
use Rattle.spherical.specs.Spherical as S
use Rattle.weld.specs.Weld as W
use Rattle.joint.specs.Stage as Stage
use Rattle.scene.specs.Scene as Scene

unfoldable pub computed : Unit {0}
unfolding Ieee.of_bits Ieee.neg Ieee.add Ieee.sub Ieee.mul Ieee.div Ieee.lt Ieee.eq Ieee.le Root.sqrt
    Scalar.abs_float Scalar.min_float Scalar.max_float Scalar.clamp_float Scalar.atan_unit Scalar.atan2
    Vector.add Vector.sub Vector.neg Vector.dot Vector.length Vector.normalize Vector.mul_add Vector.mul_sub Vector.mul_sv Vector.cross
    Internal.add2 Internal.sub2 Internal.mul_sv2
    Quat.rotate_vector Quat.dot_quat Quat.mul_quat Quat.inv_mul_quat Quat.conjugate Quat.negate_quat Quat.get_twist_angle Quat.delta_quat_to_rotation
    Quat.get_swing_angle
    Matrix.det Matrix.mul_mv Matrix.negate_mat3 Matrix.add_mm Matrix.mul_mm Matrix.transpose Matrix.invert_matrix Matrix.solve3 Matrix.det2 Matrix.solve2
    Matrix.skew Transform.sub_pos Solver.make_soft Body.is_dynamic Body.store_velocities
    Velocity.velocities_of Velocity.inv_masses_of Velocity.apply_axial Velocity.apply_axial_flipped Velocity.apply_angular Velocity.apply_point
    Velocity.apply_warm
    Soft.soft_bias_of Soft.limit_bias Soft.soft_impulse Soft.soft_impulse3 Soft.soft_impulse_of Soft.limit_sum
    Soft.limit_impulse
    Rotation.same_polarity Rotation.relative_rotation Rotation.flipped_relative_rotation
    Angular.is_worked Angular.twist_angle_if Angular.swing_angle_if Angular.lower_limit_row Angular.upper_limit_row Angular.angular_row Angular.twist_limit_rows
    Point.point_bias Point.point_mass Point.point_cdot Point.point_cdot_grouped Point.point_row_at
    Prepare.prepare_base Prepare.awake_index Prepare.prepare_frame Prepare.axial_mass
    R.spring_row R.motor_sum R.motor_row R.perp_axis R.perp_bias R.perp_mass R.perp_angular_impulse R.collinear_row R.perp_row
    R.point_row R.joint_rotation
    R.solve_spring R.solve_motor R.solve_limits R.solve_perp R.solve_point R.solve_revolute R.warm_angular_impulse R.warm_start_revolute R.keep_impulses
    R.prepare_revolute R.prepare_revolute_joint R.warm_start_revolute_joint R.solve_revolute_joint
    S.spring_row S.motor_sum S.limit_length S.motor_row S.cone_row S.joint_rotation S.solve_spring S.solve_motor S.solve_limits S.solve_cone
    S.solve_bias S.solve_point
    S.prepare_swing S.twist_jacobian S.prepare_twist S.prepare_rotation_mass S.keep_impulses
    S.prepare_spherical S.warm_start_spherical S.solve_spherical S.prepare_spherical_joint S.warm_start_spherical_joint S.solve_spherical_joint
    W.row_spring W.keep_impulses W.prepare_weld W.warm_start_weld W.is_soft W.angular_bias W.weld_angular_row W.joint_rotation W.solve_angular
    W.solve_bias W.solve_point W.solve_weld W.prepare_weld_joint W.warm_start_weld_joint W.solve_weld_joint
    Stage.warm_start_as Stage.solve_as Stage.stage_joint Scene.store
computed = tt
