-- What holds of the two angles that a joint of any kind keeps, of the code of one that was prepared or warm started, of prepare, and of the marks of a solve
-- and of prepare, in the words of document 01, of C-11 and of C-15. Statements only: each is proved in proofs/Angles.antt, proofs/Prepares.antt or
-- proofs/Marks.antt, under the same name in small letters.
-- Assumes nothing.
use Rattle.std.specs.Prelude.{◌≡◌, ◌≢◌, ◌↔◌, Bool, true, false, not, ℕ, ◌≤◌, Float, ℤ, Option, None, Some}
use Rattle.std.specs.Float.{nan}
use Rattle.math_functions.specs.declared.mark.Mark.{Mark}
use Rattle.math_functions.specs.declared.mark.Mark.TheVariants.{FellBack}
use Rattle.math_functions.specs.declared.types.Matrix3.{Matrix3}
use Rattle.math_functions.specs.declared.types.Transform.{Transform}
use Rattle.math_functions.specs.Float.{lt, threshold}
use Rattle.math_functions.specs.Mark.{Says, no_mark}
use Rattle.math_functions.specs.Types.{mat3_zero}
use Rattle.math_functions.specs.Matrix.{add_mm, passes2, passes3}
use Rattle.math_functions.specs.Quat.{get_twist_angle, get_swing_angle}
use Rattle.solver.specs.declared.StepContext.{StepContext}
use Rattle.records.specs.declared.body.BodyRecord.{BodyRecord}
use Rattle.records.specs.declared.body.BodyState.{BodyState}
use Rattle.records.specs.declared.joint.LimitAngles.{LimitAngles}
use Rattle.records.specs.declared.joint.JointSim.{JointSim}
use Rattle.records.specs.declared.joint.JointUnion.{JointUnion}
use Rattle.records.specs.declared.joint.JointUnion.TheVariants.{Revolute, Spherical, Weld, Other}
use Rattle.records.specs.declared.joint.RevoluteJoint.{RevoluteJoint}
use Rattle.records.specs.declared.joint.SphericalJoint.{SphericalJoint}
use Rattle.records.specs.declared.joint.WeldJoint.{WeldJoint}
use Rattle.records.specs.Body.{with_flags}
use Rattle.records.specs.Joint.{case_of, no_angles, joint_sim}
use Rattle.records.specs.Revolute as RevoluteRecord
use Rattle.records.specs.Spherical as SphericalRecord
use Rattle.records.specs.Weld as WeldRecord
use Rattle.constraint.specs.declared.answer.Report.{Report}
use Rattle.constraint.specs.Answer.{no_report}
use Rattle.constraint.specs.Claims.{point_matrix}
use Rattle.constraint.specs.Prepare.{inertia_det}
use Rattle.constraint.specs.Angular.{is_worked}
use Rattle.revolute.specs.Revolute as R
use Rattle.revolute.specs.Claims.{perp_matrix}
use Rattle.spherical.specs.Spherical as S
use Rattle.weld.specs.Weld as W
use Rattle.stop_code.specs.StopCode.{stop_code}
use Rattle.joint.specs.Prepare.{prepare_joint}
use Rattle.joint.specs.Stage.{warm_start_joint, solve_joint}

-- ==== The two angles

-- C-11: 'a solve stores the angle of each limit row that it works and NaN for one that it does not'
pub record Stored (worked : Bool) (angle stored : Float) : Type 0 where
  pub of_worked : worked ≡ true → stored ≡ angle
  pub of_other : worked ≡ false → stored ≡ nan

-- a row is worked where its switch is on and rotation is not fixed; its angle is the twist or the swing of frame B's rotation relative to frame A, as the
-- solve's rows have it
pub record RevoluteAngles (joint : JointSim) (r : RevoluteJoint) (a b : BodyState) (next : LimitAngles) : Type 0 where
  pub twist : Stored (is_worked r.enable_limit joint.base.fixed_rotation) (get_twist_angle (R.joint_rotation r a b).rel_q) next.twist
  pub no_swing : next.swing ≡ nan

pub record SphericalAngles (joint : JointSim) (r : SphericalJoint) (a b : BodyState) (next : LimitAngles) : Type 0 where
  pub twist : Stored (is_worked r.enable_twist_limit joint.base.fixed_rotation) (get_twist_angle (S.joint_rotation r a b).rel_q) next.twist
  pub swing : Stored (is_worked r.enable_cone_limit joint.base.fixed_rotation) (get_swing_angle (S.joint_rotation r a b).rel_q) next.swing

-- what a solve leaves of the angles, by the joint's case: a weld has no limit row, and the empty case is refused
pub record SolvedAngles (joint : JointSim) (a b : BodyState) (next : LimitAngles) : Type 0 where
  pub revolute : (r : RevoluteJoint) → joint.union_ ≡ Revolute r → RevoluteAngles joint r a b next
  pub spherical : (r : SphericalJoint) → joint.union_ ≡ Spherical r → SphericalAngles joint r a b next
  pub weld : (w : WeldJoint) → joint.union_ ≡ Weld w → next ≡ no_angles
  pub refused : joint.union_ ≡ Other → next ≡ joint.angles

abbrev pub SolveStores : Type 0
SolveStores = (joint : JointSim) (context : StepContext) (a b : BodyState) (use_bias : Bool)
    → SolvedAngles joint a b (solve_joint joint context a b use_bias).joint.angles

-- A warm start changes neither the angles nor the code.
pub record WarmStartLeaves (joint : JointSim) (a b : BodyState) : Type 0 where
  pub angles : (warm_start_joint joint a b).joint.angles ≡ joint.angles
  pub code : stop_code (warm_start_joint joint a b).joint ≡ stop_code joint

abbrev pub WarmStartKeepsCode : Type 0
WarmStartKeepsCode = (joint : JointSim) (a b : BodyState) → WarmStartLeaves joint a b

-- 'prepare stores NaN in both': where it is not refused. A joint that was just prepared has code 0, and one that prepare refuses has code 0 as before.
pub record JustPrepared (joint : JointSim) (context : StepContext) (body_a body_b : BodyRecord) : Type 0 where
  pub angles : (prepare_joint joint context body_a body_b).number ≡ 0 → (prepare_joint joint context body_a body_b).joint.angles ≡ no_angles
  pub code : (stop_code (prepare_joint joint context body_a body_b).joint).code ≡ 0

abbrev pub PreparedCode : Type 0
PreparedCode = (joint : JointSim) (context : StepContext) (body_a body_b : BodyRecord) → JustPrepared joint context body_a body_b

-- ==== Prepare

-- 'prepare refuses only with 1, place 0'
pub record PrepareAnswer (joint : JointSim) (context : StepContext) (body_a body_b : BodyRecord) : Type 0 where
  pub refused : ((prepare_joint joint context body_a body_b).number ≡ 1) ↔ (joint.union_ ≡ Other)
  pub number_bound : (prepare_joint joint context body_a body_b).number ≤ 1
  pub place_zero : (prepare_joint joint context body_a body_b).place ≡ 0
  pub unaltered : joint.union_ ≡ Other → (prepare_joint joint context body_a body_b).joint ≡ joint

-- The number is 1 exactly for the empty case, and else 0. The place is always 0, and what is refused comes back as it was.
abbrev pub PrepareNumber : Type 0
PrepareNumber = (joint : JointSim) (context : StepContext) (body_a body_b : BodyRecord) → PrepareAnswer joint context body_a body_b

-- ==== C-15's marks

-- 'Each solve's answer passes on the marks of the perpendicular and point rows', each at the matrix that this solve formed. Revolute's perpendicular row is
-- worked where rotation is not fixed; the point row always
pub record RevoluteMarks (joint : JointSim) (r : RevoluteJoint) (a b : BodyState) (report : Report) : Type 0 where
  pub perp : Says report.perp_mark (not joint.base.fixed_rotation) (passes2 (perp_matrix joint.base r a b))
  pub point : Says report.point_mark true (passes3 (point_matrix joint.base r.frame_a r.frame_b a b))

-- spherical and weld have no perpendicular row
pub record PointMarkAlone (joint : JointSim) (frame_a frame_b : Transform) (a b : BodyState) (report : Report) : Type 0 where
  pub no_perp : report.perp_mark ≡ no_mark
  pub point : Says report.point_mark true (passes3 (point_matrix joint.base frame_a frame_b a b))

-- by the joint's case: a refusal has none in both
pub record SolvedMarks (joint : JointSim) (a b : BodyState) (report : Report) : Type 0 where
  pub revolute : (r : RevoluteJoint) → joint.union_ ≡ Revolute r → RevoluteMarks joint r a b report
  pub spherical : (r : SphericalJoint) → joint.union_ ≡ Spherical r → PointMarkAlone joint r.frame_a r.frame_b a b report
  pub weld : (w : WeldJoint) → joint.union_ ≡ Weld w → PointMarkAlone joint w.frame_a w.frame_b a b report
  pub refused : joint.union_ ≡ Other → report ≡ no_report

abbrev pub SolveMarks : Type 0
SolveMarks = (joint : JointSim) (context : StepContext) (a b : BodyState) (use_bias : Bool)
    → SolvedMarks joint a b (solve_joint joint context a b use_bias).report

-- the sum of the two bodies' inverse inertias, which spherical's and weld's prepare invert
abbrev pub inertia_sum : BodyRecord → BodyRecord → Matrix3
inertia_sum body_a body_b = add_mm body_a.inv_inertia_world body_b.inv_inertia_world

-- 'and prepare that of the rotation or angular mass': spherical's rotation mass is inverted where prepare does not find rotation fixed, weld's angular mass
-- always. Revolute has no such mass, and a refusal none
pub record PreparedMark (joint : JointSim) (body_a body_b : BodyRecord) (mark : Option Mark) : Type 0 where
  pub revolute : (r : RevoluteJoint) → joint.union_ ≡ Revolute r → mark ≡ no_mark
  pub spherical : (r : SphericalJoint) → joint.union_ ≡ Spherical r
      → Says mark (not (lt (inertia_det body_a body_b) threshold)) (passes3 (inertia_sum body_a body_b))
  pub weld : (w : WeldJoint) → joint.union_ ≡ Weld w → Says mark true (passes3 (inertia_sum body_a body_b))
  pub refused : joint.union_ ≡ Other → mark ≡ no_mark

abbrev pub PrepareMark : Type 0
PrepareMark = (joint : JointSim) (context : StepContext) (body_a body_b : BodyRecord)
    → PreparedMark joint body_a body_b (prepare_joint joint context body_a body_b).mass_mark

-- the mass that prepare inverts: spherical's rotation mass, weld's angular mass
abbrev pub mass_of : JointUnion → Option Matrix3
mass_of (Revolute r) = None
mass_of (Spherical r) = Some r.rotation_mass
mass_of (Weld w) = Some w.angular_mass
mass_of Other = None

-- Where prepare's mark is fell back, the mass that it stored is zeros.
abbrev pub PrepareFellBack : Type 0
PrepareFellBack = (joint : JointSim) (context : StepContext) (body_a body_b : BodyRecord)
    → (prepare_joint joint context body_a body_b).mass_mark ≡ Some FellBack
    → mass_of (prepare_joint joint context body_a body_b).joint.union_ ≡ Some mat3_zero

-- A refusal by value has none in all, also where the joint is of another kind than the one called.
pub record RefusedSolve (joint : JointSim) (context : StepContext) (a b : BodyState) (use_bias : Bool) : Type 0 where
  pub revolute : (R.solve_revolute_joint joint context a b use_bias).number ≢ 0 → (R.solve_revolute_joint joint context a b use_bias).report ≡ no_report
  pub spherical : (S.solve_spherical_joint joint context a b use_bias).number ≢ 0 → (S.solve_spherical_joint joint context a b use_bias).report ≡ no_report
  pub weld : (W.solve_weld_joint joint context a b use_bias).number ≢ 0 → (W.solve_weld_joint joint context a b use_bias).report ≡ no_report

pub record RefusedPrepare (joint : JointSim) (context : StepContext) (a b : BodyRecord) : Type 0 where
  pub revolute : (R.prepare_revolute_joint joint context a b).number ≢ 0 → (R.prepare_revolute_joint joint context a b).mass_mark ≡ no_mark
  pub spherical : (S.prepare_spherical_joint joint context a b).number ≢ 0 → (S.prepare_spherical_joint joint context a b).mass_mark ≡ no_mark
  pub weld : (W.prepare_weld_joint joint context a b).number ≢ 0 → (W.prepare_weld_joint joint context a b).mass_mark ≡ no_mark

pub record RefusalsHaveNoMarks : Type 0 where
  pub solve : (joint : JointSim) (context : StepContext) (a b : BodyState) (use_bias : Bool) → RefusedSolve joint context a b use_bias
  pub prepare : (joint : JointSim) (context : StepContext) (a b : BodyRecord) → RefusedPrepare joint context a b

-- the joint with other body indices
abbrev pub union_with_indices : JointUnion → ℤ → ℤ → JointUnion
union_with_indices (Revolute r) x y = Revolute (RevoluteRecord.with_indices r x y)
union_with_indices (Spherical r) x y = Spherical (SphericalRecord.with_indices r x y)
union_with_indices (Weld w) x y = Weld (WeldRecord.with_indices w x y)
union_with_indices Other x y = Other

abbrev pub with_indices : JointSim → ℤ → ℤ → JointSim
with_indices joint x y = joint_sim joint.base (union_with_indices joint.union_ x y) joint.angles

-- Of the two states a solve's marks read the delta rotations alone, nothing of the step, nor whether the call has bias, and of the joint not its indices.
abbrev pub MarksRead : Type 0
MarksRead = (joint : JointSim) (x y : ℤ) (c d : StepContext) (a b a' b' : BodyState) (use_bias use_bias' : Bool)
    → a.delta_rotation ≡ a'.delta_rotation
    → b.delta_rotation ≡ b'.delta_rotation
    → (solve_joint (with_indices joint x y) c a b use_bias).report ≡ (solve_joint joint d a' b' use_bias').report

-- So they depend on no body index and on no flag.
abbrev pub MarksWithoutIndicesOrFlags : Type 0
MarksWithoutIndicesOrFlags = (joint : JointSim) (context : StepContext) (a b : BodyState) (use_bias : Bool) (x y : ℤ) (f g : ℕ)
    → (solve_joint (with_indices joint x y) context (with_flags a f) (with_flags b g) use_bias).report ≡ (solve_joint joint context a b use_bias).report

-- Of the two bodies prepare's mark reads the inverse inertias alone, so neither set nor local index; nothing of the step; and of the joint its case alone, so
-- not its indices.
abbrev pub PrepareMarkReads : Type 0
PrepareMarkReads = (joint joint' : JointSim) (c d : StepContext) (body_a body_b body_a' body_b' : BodyRecord)
    → case_of joint.union_ ≡ case_of joint'.union_
    → body_a.inv_inertia_world ≡ body_a'.inv_inertia_world
    → body_b.inv_inertia_world ≡ body_b'.inv_inertia_world
    → (prepare_joint joint c body_a body_b).mass_mark ≡ (prepare_joint joint' d body_a' body_b').mass_mark
