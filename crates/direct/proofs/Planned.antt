-- The steps of the code do what a direct call is defined to do. Assumes nothing.
--     refused_leaves                   a call that is refused
--     warm_start_leaves, solve_leaves  one that is not: what its steps answer and leave is the outcome
--     write_long                       as many states as before
use mathlib.Core.Path.{◌≡◌, refl, sym, ap, ap₂, ◌∙◌}
use mathlib.Core.Bool.{Bool, true, false, cond, false≢true}
use mathlib.Core.List.{List}
use Prim.Native.Nat.{ℕ, ◌<◌}
use native.Mathlib.Nat.{le_refl}
use native.Mathlib.Omega.{arith}
use lib.IntN.{ℤ, pos, negsuc}
use lib.ListN.{length, length-set, get_or, get_or-eq_default}
use lib.Seq.{set_out}
use borrow.Author.Tests.{eqb-true}
use Rattle.math_functions.specs.declared.types.Vec3.{Vec3}
use Rattle.solver.specs.declared.StepContext.{StepContext}
use Rattle.records.specs.declared.body.BodyState.{BodyState}
use Rattle.records.specs.declared.joint.JointSim.{JointSim}
use Rattle.records.specs.declared.joint.JointUnion.{JointUnion}
use Rattle.records.specs.declared.joint.JointUnion.TheVariants.{Revolute, Spherical, Weld, Other}
use Rattle.records.specs.Body.{identity_body_state}
use Rattle.constraint.specs.declared.velocity.Velocities.{Velocities}
use Rattle.std.specs.Prelude.{Option, None, Some}
use Rattle.records.specs.declared.refusal.Cause.{Cause}
use Rattle.records.specs.Refusal.{number_of}
use Rattle.records.proofs.Causes.{caused}
use Rattle.constraint.specs.declared.answer.WarmStarted.{WarmStarted}
use Rattle.constraint.specs.declared.answer.Solved.{Solved}
use Rattle.constraint.specs.Answer.{no_report, warm_start_answer, solve_answer}
use Rattle.records.specs.Joint.{case_of}
use Rattle.joint.specs.declared.store.StatePair.{StatePair}
use Rattle.joint.specs.Stage.{Staged, staged, of_solve, stage_joint}
use Rattle.joint.specs.Index.{index_a, index_b, index_cause}
use Rattle.joint.specs.Store.{state_pair}
use Rattle.joint.specs.Stage.{warm_start_of, solve_of}
use Rattle.joint.proofs.Stages.{warm_start_of_lem, solve_of_lem, warm_start_joint_lem}
use Rattle.scene.specs.Scene.{state_at, store}
use Rattle.scene.specs.Plain.{store_both}
use Rattle.scene.proofs.Stores.{store_long}
use Rattle.direct.specs.Direct.{StageCall}
use Rattle.direct.specs.declared.positions.Positions.{Positions}
use Rattle.direct.specs.Direct.{is_of_kind, cause, answer_of, answer, answered, refused_number, warm_start, solve, stage_at, direct_call, Leaves}
use Rattle.direct.proofs.Outcomes.{its_cause, worked_is, refused_is}
use Rattle.direct.specs.Steps.{position_of, read_states, store_at, write_states}

-- ---- positions

reads : (s : List BodyState) (i : ℤ) → get_or s (position_of (length s) i) identity_body_state ≡ state_at s i
reads s (pos k) = refl
reads s (negsuc k) = get_or-eq_default s identity_body_state (le_refl (length s))

-- at the length nothing is stored
writes : (s : List BodyState) (n : ℕ) → length s ≡ n → (i : ℤ) (v w : Vec3) → store_at (position_of n i) v w s ≡ store s i v w
unfolding store
writes s n e (pos k) v w = refl
writes s n e (negsuc k) v w = set_out s n _ (omega (arith, e))

pub write_long : (p : Positions) (v : Velocities) (s : List BodyState) → length (write_states p v s) ≡ length s
write_long p v s = length-set (store_at p.a v.v_a v.w_a s) p.b _ ∙ length-set s p.a _

-- ---- kinds

-- a call of a kind that finds no cause is on a joint of that kind, which is one of the three
is_kind : (kind n : ℕ) (u : JointUnion) → cause kind u n ≡ 0 → (case_of u ≡ kind) × (kind < 3)
unfolding cause
is_kind kind n u = by u (is_of_kind kind u) refl
  where
    by : (u : JointUnion) (t : Bool) → is_of_kind kind u ≡ t → cond t (index_cause n u) 1 ≡ 0 → (case_of u ≡ kind) × (kind < 3)
    by u false e h = absurd (omega arith)
    by (Revolute r) true e h = let k = eqb-true kind 0 e in (sym k, omega (arith, k))
    by (Spherical r) true e h = let k = eqb-true kind 1 e in (sym k, omega (arith, k))
    by (Weld r) true e h = let k = eqb-true kind 2 e in (sym k, omega (arith, k))
    by Other true e h = absurd (false≢true e)

-- on such a joint the kind's stage is the stage of the joint
module _ (joint : JointSim) (kind : ℕ) (a b : BodyState) (is : (case_of joint.union_ ≡ kind) × (kind < 3)) where
  warm_start_is : staged joint (warm_start_of kind joint a b).velocities no_report ≡ stage_joint joint (warm_start kind).context a b 0
  unfolding stage_joint
  warm_start_is = ap₂ (λ j v. staged j v no_report) (sym (warm_start_joint_lem joint a b)) (ap (λ x. x.velocities) (warm_start_of_lem kind joint a b is.0 is.1))

  solve_is : (context : StepContext) (use_bias : Bool)
      → of_solve (solve_of kind joint context a b use_bias) ≡ stage_joint joint context a b (cond use_bias 1 2)
  unfolding stage_joint
  solve_is context true = ap of_solve (solve_of_lem kind joint a b is.0 is.1 context true)
  solve_is context false = ap of_solve (solve_of_lem kind joint a b is.0 is.1 context false)

-- ---- the whole call

module _ (joint : JointSim) (s : List BodyState) where
  abbrev a : BodyState
  a = state_at s (index_a joint.union_)

  abbrev b : BodyState
  b = state_at s (index_b joint.union_)

  -- a call with a cause is refused
  pub refused_leaves : (call : StageCall) (q : Option Cause) (c : Cause) → q ≡ Some c → refused_number q ≡ its_cause call joint s
      → Leaves (direct_call call joint s) (answered (answer no_report (Some c))) joint s
  refused_leaves call q c is e =
      let n : number_of c ≡ its_cause call joint s = ap refused_number (sym is) ∙ e in
      let out = sym (refused_is call joint s (λ z. caused c (n ∙ z))) in
      (ap (λ m. answer_of m no_report) n ∙ ap (λ o. o.answer) out, ap (λ o. o.joint) out, ap (λ o. o.states) out)

  module _ (q : Positions) (q-a : q.a ≡ position_of (length s) (index_a joint.union_)) (q-b : q.b ≡ position_of (length s) (index_b joint.union_)) where
    stored : (v : Velocities) → write_states q v s ≡ store_both s joint.union_ v
    stored v =
        let i = index_a joint.union_ in
        let j = index_b joint.union_ in
        (λ k. store_at (q-b k) v.v_b v.w_b (store_at (q-a k) v.v_a v.w_a s))
        ∙ ap (store_at (position_of (length s) j) v.v_b v.w_b) (writes s (length s) refl i v.v_a v.w_a)
        ∙ writes (store s i v.v_a v.w_a) (length s) (store_long s i v.v_a v.w_a) j v.v_b v.w_b

    read : read_states q s ≡ state_pair a b
    read = (λ k. state_pair (get_or s (q-a k) identity_body_state) (get_or s (q-b k) identity_body_state))
        ∙ ap₂ state_pair (reads s (index_a joint.union_)) (reads s (index_b joint.union_))

    -- a call without one leaves what its stage leaves, on the two states at the joint's indices
    module _ (ab : StatePair) (t u : List BodyState) (t-is : t ≡ s) (ab-is : ab ≡ read_states q s) (none : q.refused ≡ None) where
      no_cause : (call : StageCall) → refused_number q.refused ≡ its_cause call joint s → its_cause call joint s ≡ 0
      no_cause call e = sym e ∙ ap refused_number none

      leaves : (call : StageCall) → refused_number q.refused ≡ its_cause call joint s
          → (stage : BodyState → BodyState → Staged) → ((case_of joint.union_ ≡ call.kind) × (call.kind < 3) → stage a b ≡ stage_at call joint s)
          → let r = stage ab.state_a ab.state_b in u ≡ write_states q r.velocities t
          → Leaves (direct_call call joint s) (answer_of 0 r.report) r.joint u
      leaves call e stage is u-is =
          let pair = ab-is ∙ read in
          let staged : stage ab.state_a ab.state_b ≡ stage_at call joint s =
          ap (λ x. stage x.state_a x.state_b) pair ∙ is (is_kind call.kind (length s) joint.union_ (no_cause call e)) in
          let out = sym (worked_is call joint s (no_cause call e)) in (
            ap (λ x. answer_of 0 x.report) staged ∙ ap (λ o. o.answer) out,
            ap (λ x. x.joint) staged ∙ ap (λ o. o.joint) out,
            u-is ∙ (λ k. write_states q (staged k).velocities (t-is k)) ∙ stored (stage_at call joint s).velocities ∙ ap (λ o. o.states) out,
          )

      pub warm_start_leaves : (kind : ℕ) → refused_number q.refused ≡ its_cause (warm_start kind) joint s
          → (r : WarmStarted) → warm_start_answer r ≡ warm_start_of kind joint ab.state_a ab.state_b → u ≡ write_states q r.velocities t
          → Leaves (direct_call (warm_start kind) joint s) (answered (answer no_report None)) joint u
      warm_start_leaves kind e r r-is u-is =
          leaves (warm_start kind) e (λ x y. staged joint (warm_start_of kind joint x y).velocities no_report) (warm_start_is joint kind a b)
          (u-is ∙ ap (λ x. write_states q x.velocities t) r-is)

      pub solve_leaves : (kind : ℕ) (context : StepContext) (use_bias : Bool) → refused_number q.refused ≡ its_cause (solve kind context use_bias) joint s
          → (r : Solved) → solve_answer r ≡ solve_of kind joint context ab.state_a ab.state_b use_bias → u ≡ write_states q r.velocities t
          → Leaves (direct_call (solve kind context use_bias) joint s) (answered (answer r.report None)) r.joint u
      solve_leaves kind context use_bias e r r-is u-is =
          let at = leaves (solve kind context use_bias) e (λ x y. of_solve (solve_of kind joint context x y use_bias))
          (λ is. solve_is joint kind a b is context use_bias) (u-is ∙ ap (λ x. write_states q x.velocities t) r-is) in
          (ap (λ x. answer_of 0 x.report) r-is ∙ at.0, ap (λ x. x.joint) r-is ∙ at.1, at.2)
