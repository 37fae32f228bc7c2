-- What holds of every direct call, in document 01's words, and of a call list of that one call. Statements only: each is proved in proofs/Proved.antt,
-- under the same name in small letters. Assumes nothing.
use Rattle.std.specs.Prelude.{◌≡◌, ◌⊎◌, ◌≢◌, ◌↔◌, Bool, true, false, List, [], ◌∷◌, ℕ, zero, suc, ◌≤◌, ◌<◌, eqb, ℤ, pos, negsuc, length, take}
use Rattle.solver.specs.declared.StepContext.{StepContext}
use Rattle.records.specs.declared.body.BodyState.{BodyState}
use Rattle.records.specs.declared.joint.JointSim.{JointSim}
use Rattle.records.specs.declared.joint.JointUnion.{JointUnion}
use Rattle.records.specs.declared.joint.JointUnion.TheVariants.{Other}
use Rattle.scene.specs.declared.Scene.{Scene}
use Rattle.records.specs.Body.{is_dynamic, with_velocities}
use Rattle.constraint.specs.declared.velocity.Velocities.{Velocities}
use Rattle.constraint.specs.Answer.{no_report}
use Rattle.joint.specs.Index.{index_a, index_b}
use Rattle.records.specs.Joint.{case_of}
use Rattle.joint.specs.Stage.{solve_joint, stage_joint}
use Rattle.joint.specs.Store.{state_pair, store_pair}
use Rattle.scene.specs.Scene.{joint_at, state_at, NamesBody}
use Rattle.scene.specs.Plain.{store_both, plain_run}
use Rattle.scene.specs.Claims.{OutOf, Test, test, NoCause, FirstCause, OnlyVelocities, OnlyImpulses, LimitsNonNegative}
use Rattle.direct.specs.Direct.{StageCall}
use Rattle.direct.specs.Direct.{warm_start, solve, Outcome, direct_call}

-- ==== Numbers

-- document 01's causes, by their numbers
abbrev pub Cause1 : ℕ → JointUnion → Type 0
Cause1 kind union = (case_of union ≢ kind) ⊎ (union ≡ Other)

abbrev pub Cause2 : ℕ → JointUnion → Type 0
Cause2 body_count union = OutOf body_count (index_a union)

abbrev pub Cause3 : ℕ → JointUnion → Type 0
Cause3 body_count union = OutOf body_count (index_b union)

-- 'a direct stage call tests 1, 2, 3 and has place 0; its body count is the length of the lent slice'
abbrev pub tests : StageCall → JointSim → List BodyState → List Test
tests call joint states =
    let union = joint.union_ in
    test 1 0 (Cause1 call.kind union) ∷ test 2 0 (Cause2 (length states) union) ∷ test 3 0 (Cause3 (length states) union) ∷ []

-- A number other than 0 stands exactly when its cause is the first that holds.
abbrev pub Numbers : Type 0
Numbers = (call : StageCall) (joint : JointSim) (states : List BodyState) (number : ℕ) → number ≢ 0
    → ((direct_call call joint states).answer.number ≡ number) ↔ FirstCause (tests call joint states) number 0

-- Number 0 stands exactly when no cause holds. The place is always 0.
abbrev pub Acceptance : Type 0
Acceptance = (call : StageCall) (joint : JointSim) (states : List BodyState)
    → (((direct_call call joint states).answer.number ≡ 0) ↔ NoCause (tests call joint states)) × ((direct_call call joint states).answer.place ≡ 0)

-- No number but 0 to 3 is answered.
abbrev pub Range : Type 0
Range = (call : StageCall) (joint : JointSim) (states : List BodyState) → (direct_call call joint states).answer.number ≤ 3

-- A refused call leaves joint and states as they were.
abbrev pub Refusal : Type 0
Refusal = (call : StageCall) (joint : JointSim) (states : List BodyState)
    → (direct_call call joint states).answer.number ≢ 0
    → ((direct_call call joint states).joint ≡ joint) × ((direct_call call joint states).states ≡ states)

-- ==== What may change

-- joint and states are as they were but for velocities of dynamic states that the joint names, and for what a solve writes of the joint: impulses, revolute's
-- two perpendicular axes, and the two angles
pub record OnlyChanges (joint : JointSim) (states : List BodyState) (after : Outcome) : Type 0 where
  pub impulses : OnlyImpulses joint after.joint
  pub as_many : length after.states ≡ length states
  pub velocities : (n : ℕ) → OnlyVelocities (state_at states (pos n)) (state_at after.states (pos n))
  -- a state that is not dynamic, or that the joint does not name, is kept whole
  pub state_kept : (n : ℕ) → (NamesBody joint.union_ n → ¬ (is_dynamic (state_at states (pos n)) ≡ true))
      → state_at after.states (pos n) ≡ state_at states (pos n)

-- Whatever the call, it changes nothing else.
abbrev pub Changes : Type 0
Changes = (call : StageCall) (joint : JointSim) (states : List BodyState) → OnlyChanges joint states (direct_call call joint states)

-- A warm start leaves the joint as it was, whatever its kind.
abbrev pub WarmStartKeeps : Type 0
WarmStartKeeps = (kind : ℕ) (joint : JointSim) (states : List BodyState) → (direct_call (warm_start kind) joint states).joint ≡ joint

-- ==== Two states stored by value

-- both indices name one body
abbrev pub one_body : ℤ → ℤ → Bool
one_body (pos m) (pos n) = eqb m n
one_body (pos m) (negsuc n) = false
one_body (negsuc m) y = false

-- Where neither 2 nor 3 holds, the states at the joint's indices once both are stored are those that `store_pair` makes of the two states that were read.
abbrev pub PairStored : Type 0
PairStored = (states : List BodyState) (union : JointUnion) (v : Velocities) → ¬ (Cause2 (length states) union) → ¬ (Cause3 (length states) union)
    → let a = index_a union in
    let b = index_b union in
    let after = store_both states union v in
    state_pair (state_at after a) (state_at after b) ≡ store_pair (state_at states a) (state_at states b) (one_body a b) v

-- 'So if both indices name one dynamic body, B's velocities remain': where an accepted call's two indices name one dynamic state, it has at exit the velocities
-- that the stage gives B, where that one state was read both for A and for B, and is otherwise as it was. (Accepted, the index is below the number of states.)
abbrev pub OneBodyTwice : Type 0
OneBodyTwice = (call : StageCall) (joint : JointSim) (states : List BodyState) (n : ℕ)
    → index_a joint.union_ ≡ pos n → index_b joint.union_ ≡ pos n → is_dynamic (state_at states (pos n)) ≡ true
    → (direct_call call joint states).answer.number ≡ 0
    → let x = state_at states (pos n) in
    let v = (stage_joint joint call.context x x call.stage).velocities in
    state_at (direct_call call joint states).states (pos n) ≡ with_velocities x v.v_b v.w_b

-- ==== A list of one call

-- the direct call of a stage of a list
abbrev pub call_of : ℕ → ℕ → StepContext → StageCall
call_of kind zero context = warm_start kind
call_of kind (suc zero) context = solve kind context true
call_of kind (suc (suc n)) context = solve kind context false

-- a scene's counted bodies
abbrev pub counted : Scene → List BodyState
counted s = take s.body_count s.bodies

-- what a run's tests 6, 4 and 5 ask, and a direct call does not test: counts of at most 32, a counted slot, a stage of at most 2. The arrays are whole
pub record Callable (s : Scene) (slot stage : ℕ) : Type 0 where
  pub whole_joints : length s.joints ≡ 32
  pub whole_bodies : length s.bodies ≡ 32
  pub few_joints : s.joint_count ≤ 32
  pub few_bodies : s.body_count ≤ 32
  pub slot_counted : slot < s.joint_count
  pub stage_known : stage ≤ 2

-- the kind called is the joint's, if that is one of the three: a list's call has no kind of its own, and is not refused for another
abbrev pub OfKind : ℕ → JointUnion → Type 0
OfKind kind union = (union ≡ Other) ⊎ (case_of union ≡ kind)

-- A direct call on the joint in a slot and the counted bodies, and the run of a list of that one call, have the same number and place, and leave the same joint
-- and states: worked or refused.
pub record SameEnd (s : Scene) (slot stage kind : ℕ) : Type 0 where
  pub number : (plain_run s (slot ∷ stage ∷ [])).number ≡ (direct_call (call_of kind stage s.context) (joint_at s slot) (counted s)).answer.number
  pub place : (plain_run s (slot ∷ stage ∷ [])).place ≡ (direct_call (call_of kind stage s.context) (joint_at s slot) (counted s)).answer.place
  pub joint : joint_at (plain_run s (slot ∷ stage ∷ [])).scene slot ≡ (direct_call (call_of kind stage s.context) (joint_at s slot) (counted s)).joint
  pub states : counted (plain_run s (slot ∷ stage ∷ [])).scene ≡ (direct_call (call_of kind stage s.context) (joint_at s slot) (counted s)).states

abbrev pub OneCall : Type 0
OneCall = (s : Scene) (slot stage kind : ℕ) → Callable s slot stage → OfKind kind (joint_at s slot).union_ → SameEnd s slot stage kind

-- ==== Limits

-- After each direct solve that is not refused, of a joint whose rotation is not fixed, its enabled limits' impulses are zero or positive, never a NaN.
abbrev pub LimitsAfterCall : Type 0
LimitsAfterCall = (kind : ℕ) (context : StepContext) (use_bias : Bool) (joint : JointSim) (states : List BodyState)
    → (direct_call (solve kind context use_bias) joint states).answer.number ≡ 0
    → joint.base.fixed_rotation ≡ false
    → LimitsNonNegative joint.union_ (direct_call (solve kind context use_bias) joint states).joint.union_

-- ==== C-15's marks

-- 'Each solve's answer passes on the marks', direct as by value: an accepted direct solve reports what the solve by value of the joint reports, on the states
-- at the joint's two indices (`SolveMarks` of `joint` says what that is).
abbrev pub SolveReports : Type 0
SolveReports = (kind : ℕ) (context : StepContext) (use_bias : Bool) (joint : JointSim) (states : List BodyState)
    → (direct_call (solve kind context use_bias) joint states).answer.number ≡ 0
    → (direct_call (solve kind context use_bias) joint states).answer.report
    ≡ (solve_joint joint context (state_at states (index_a joint.union_)) (state_at states (index_b joint.union_)) use_bias).report

-- A warm start, refused or not, works no row, nor does a refused call: both marks are none.
pub record NoMarks : Type 0 where
  pub warm_start_lem : (kind : ℕ) (joint : JointSim) (states : List BodyState) → (direct_call (warm_start kind) joint states).answer.report ≡ no_report
  pub refused : (call : StageCall) (joint : JointSim) (states : List BodyState) → (direct_call call joint states).answer.number ≢ 0
      → (direct_call call joint states).answer.report ≡ no_report
