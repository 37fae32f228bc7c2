-- The scenes behind what docs/CAPTIONS.md says of the marks, and for each the figures that the definitions give: direct solves without bias, unless a line says
-- otherwise, and prepares. Statements and the definitions that they cite. Assumes nothing.
use Rattle.std.specs.Prelude.{◌≡◌, ℕ, Bool, true, false, [], ◌∷◌, pos, Float, Option, Some, None}
use Rattle.std.specs.Float.{nan}
use Rattle.math_functions.specs.declared.mark.Mark.{Mark}
use Rattle.math_functions.specs.declared.mark.Mark.TheVariants.{Solved, FellBack}
use Rattle.math_functions.specs.Float.{lit, neg, zero, one, two}
use Rattle.math_functions.specs.Types.{vec3, matrix3, vec3_zero, mat3_zero, transform_identity}
use Rattle.solver.specs.declared.StepContext.{StepContext}
use Rattle.solver.specs.Solver.{softness, context_with}
use Rattle.records.specs.declared.body.BodyState.{BodyState}
use Rattle.records.specs.declared.body.BodyRecord.{BodyRecord}
use Rattle.records.specs.declared.joint.JointSim.{JointSim}
use Rattle.records.specs.declared.joint.JointType.TheVariants as Kind
use Rattle.records.specs.declared.joint.JointUnion.{JointUnion}
use Rattle.records.specs.declared.joint.JointUnion.TheVariants.{Revolute, Spherical, Weld, Other}
use Rattle.records.specs.Base.{built, settings_with, nothing_made}
use Rattle.records.specs.Spherical.{default_spherical}
use Rattle.records.specs.Weld.{default_weld}
use Rattle.records.specs.Joint.{no_angles, joint_sim}
use Rattle.constraint.specs.Answer.{report}
use Rattle.revolute.specs.Revolute.{prepare_revolute_joint}
use Rattle.spherical.specs.Spherical.{prepare_spherical_joint}
use Rattle.weld.specs.Weld.{prepare_weld_joint}
use Rattle.weld.specs.Weld as W
use Rattle.scene.specs.Scene.{state_at}
use Rattle.scene.specs.Chain as Chain
use Rattle.direct.specs.Direct as Direct
use Rattle.direct.specs.Direct.{Outcome, direct_call, revolute, weld}
use Rattle.examples.specs.Joints.{half, joint_base, hinge, body, free0, free1, turns0, fixed, moving, linear_impulse_x}

-- ---- the joints

abbrev half_second : StepContext
half_second = context_with half two true

-- a weld joint with this impulse along x stored and these scales of its softness, its mass scale and its impulse scale
abbrev weld_with : Float → Float → Float → JointSim
weld_with impulse mass_scale impulse_scale =
    let soft = softness zero mass_scale impulse_scale in
    let base = built (settings_with (pos 0) (pos 0) (pos 0) Kind.Weld transform_identity transform_identity soft) nothing_made in
    joint_sim base (Weld (W.with_impulses default_weld (vec3 impulse zero zero) vec3_zero)) no_angles

-- two blocks welded, with an impulse stored: warm starting is on, so that prepare keeps it
abbrev welded : JointSim → BodyRecord → BodyRecord → JointSim
welded joint body_a body_b = (prepare_weld_joint joint half_second body_a body_b).joint

-- bodies 0 and 1 of inverse mass 0: blocks that no impulse moves. The matrix of a point row between them is zero
abbrev heavy0 : BodyRecord
heavy0 = body (pos 2) (pos 0) zero mat3_zero

abbrev heavy1 : BodyRecord
heavy1 = body (pos 2) (pos 1) zero mat3_zero

-- bodies 0 and 1 of inverse mass 2 ^ 43: the determinant of a point row between them, 2 ^ 132, is infinite
abbrev light0 : BodyRecord
light0 = body (pos 2) (pos 0) (lit 0x5500_0000) mat3_zero

abbrev light1 : BodyRecord
light1 = body (pos 2) (pos 1) (lit 0x5500_0000) mat3_zero

-- body 1 of inverse mass 1, with its centre 2 away along x
abbrev away1 : BodyRecord
away1 =
    record {
      set_index = pos 2;
      local_index = pos 1;
      inv_mass = one;
      inv_inertia_world = mat3_zero;
      rotation = free1.rotation;
      center = vec3 two zero zero;
      local_center = vec3_zero;
    }

-- a body that hardly turns about x and y, and about z ever so easily: inverse inertia 2 ^ -60, 2 ^ -60 and 2 ^ 100. Rotation is not fixed
abbrev slim0 : BodyRecord
slim0 =
    let small = lit 0x2180_0000 in
    let large = lit 0x7180_0000 in
    body (pos 2) (pos 0) one (matrix3 (vec3 small zero zero) (vec3 zero small zero) (vec3 zero zero large))

-- a hinge of the world and body 0
abbrev hinged : BodyRecord → JointSim
hinged body_b =
    (prepare_revolute_joint
    (joint_sim (joint_base Kind.Revolute) (Revolute (hinge false zero zero false zero zero zero)) no_angles) half_second fixed body_b).joint

-- ---- what is seen of them

-- a solve without bias, or with it, on the states of bodies 0 and 1
abbrev solve_once : ℕ → Bool → JointSim → BodyState → BodyState → Outcome
solve_once kind use_bias joint a b = direct_call (Direct.solve kind half_second use_bias) joint (a ∷ b ∷ [])

abbrev impulse_x : Outcome → Float
impulse_x r = linear_impulse_x r.joint.union_

abbrev speed_x : Outcome → ℕ → Float
speed_x r n = (state_at r.states (pos n)).linear_velocity.x

abbrev Marks : Outcome → Option Mark → Option Mark → Type 0
Marks r perp point = r.answer.report ≡ report perp point

abbrev apart_x : JointUnion → Float
apart_x (Revolute j) = nan
apart_x (Spherical j) = nan
apart_x (Weld j) = j.delta_center.x
apart_x Other = nan

-- prepare's mark of a weld and of a ball joint between the world and a body
abbrev weld_mark : BodyRecord → Option Mark
weld_mark body_b = (prepare_weld_joint (weld_with zero zero zero) half_second fixed body_b).mass_mark

abbrev ball_mark : BodyRecord → Option Mark
ball_mark body_b =
    (prepare_spherical_joint (joint_sim (joint_base Kind.Spherical) (Spherical default_spherical) no_angles) half_second fixed body_b).mass_mark

abbrev not_dynamic : Float → BodyState
not_dynamic x = Chain.moving x 0

abbrev at_rest : Outcome
at_rest = solve_once weld false (welded (weld_with zero zero zero) free0 free1) (moving zero) (moving zero)

abbrev flat : Outcome
flat = solve_once weld false (welded (weld_with zero zero zero) heavy0 heavy1) (moving zero) (moving two)

abbrev flat_pushed : Bool → Outcome
flat_pushed use_bias = solve_once weld use_bias (welded (weld_with one zero one) heavy0 heavy1) (moving zero) (moving two)

abbrev unmoved : Outcome
unmoved = solve_once weld false (welded (weld_with zero zero zero) free0 free1) (not_dynamic zero) (not_dynamic two)

abbrev light : Outcome
light = solve_once weld false (welded (weld_with zero zero zero) light0 light1) (moving zero) (moving two)

abbrev apart : Outcome
apart = solve_once weld false (welded (weld_with zero zero zero) free0 away1) (moving zero) (moving zero)

abbrev pulled : Outcome
pulled = solve_once weld false (welded (weld_with zero zero zero) free0 free1) (moving zero) (moving two)

-- ---- the figures, each below the sentence that it bears out or shows to be false

pub record ShownMarks : Type 0 where
  -- impulse 0 of a joint at rest: solved
  pub rest_solved : Marks at_rest None (Some Solved)
  pub rest_impulse : impulse_x at_rest ≡ zero
  -- impulse 0 of a joint whose matrix is too flat: fell back, and the blocks go on at 0 and 2
  pub flat_fell_back : Marks flat None (Some FellBack)
  pub flat_impulse : impulse_x flat ≡ zero
  pub flat_speeds : (speed_x flat 0 ≡ zero) × (speed_x flat 1 ≡ two)
  -- 'fell back means that the impulse is zero': one of 1 that was stored stays
  pub pushed_fell_back : Marks (flat_pushed false) None (Some FellBack)
  pub pushed_impulse : impulse_x (flat_pushed false) ≡ one
  -- 'a row that fell back leaves its impulse as it was': with bias, and a softness that lets go of what is stored, it is 0
  pub let_go_fell_back : Marks (flat_pushed true) None (Some FellBack)
  pub let_go_impulse : impulse_x (flat_pushed true) ≡ zero
  -- 'solved means that the parts stay together': blocks that are not dynamic go on at 0 and 2; two that are 2 apart, at rest, are left at rest
  pub unmoved_solved : Marks unmoved None (Some Solved)
  pub unmoved_speeds : (speed_x unmoved 0 ≡ zero) × (speed_x unmoved 1 ≡ two)
  pub apart_solved : Marks apart None (Some Solved)
  pub apart_by_two : apart_x apart.joint.union_ ≡ two
  pub apart_speeds : (speed_x apart 0 ≡ zero) × (speed_x apart 1 ≡ zero)
  -- 'solved, and an impulse of 0, means that the parts are at rest against each other': an infinite determinant passes, and the blocks go on at 0 and 2
  pub light_solved : Marks light None (Some Solved)
  pub light_impulse : impulse_x light ≡ zero
  pub light_speeds : (speed_x light 0 ≡ zero) × (speed_x light 1 ≡ two)
  -- 'no mark means that the joint was not worked': a hinge whose rotation is fixed has none at its perpendicular row, and its point row brings the block from
  -- 2 to 0
  pub fixed_hinge : Marks (solve_once revolute false (hinged free0) (moving two) (moving zero)) None (Some Solved)
  pub fixed_hinge_speed : speed_x (solve_once revolute false (hinged free0) (moving two) (moving zero)) 0 ≡ zero
  -- a hinge that can turn has both
  pub free_hinge : Marks (solve_once revolute false (hinged turns0) (moving two) (moving zero)) (Some Solved) (Some Solved)
  -- 'where one row of a hinge fell back, the hinge does not hold': its point row brings the block from 2 to 0
  pub slim_hinge : Marks (solve_once revolute false (hinged slim0) (moving two) (moving zero)) (Some FellBack) (Some Solved)
  pub slim_hinge_speed : speed_x (solve_once revolute false (hinged slim0) (moving two) (moving zero)) 0 ≡ zero
  -- prepare: a mass that was inverted, one that was not since rotation is fixed, and a weld's, which is inverted all the same
  pub ball_turns : ball_mark turns0 ≡ Some Solved
  pub ball_fixed : ball_mark free0 ≡ None
  pub weld_turns : weld_mark turns0 ≡ Some Solved
  pub weld_fixed : weld_mark free0 ≡ Some FellBack
  -- 'where the mass fell back at prepare, the joint does no work': these blocks cannot turn, and are brought from 0 and 2 to 1 and 1
  pub no_inertia : (prepare_weld_joint (weld_with zero zero zero) half_second free0 free1).mass_mark ≡ Some FellBack
  pub works_all_the_same : (speed_x pulled 0 ≡ one) × (speed_x pulled 1 ≡ one)
  pub work_impulse : impulse_x pulled ≡ neg one
