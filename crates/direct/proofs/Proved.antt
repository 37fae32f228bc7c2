-- The claims of specs/Claims.antt, proved, each under its statement's name in small letters. Assumes nothing.
use mathlib.Core.Path.{◌≡◌, refl, sym, ap, ap₂, ◌∙◌}
use mathlib.Core.Logic.{inl, inr, ⊎_elim, ◌≢◌}
use mathlib.Core.Bool.{Bool, true, false, not, cond}
use mathlib.Core.List.{List}
use Prim.Native.Nat.{ℕ, ◌≤◌}
use native.Mathlib.Omega.{arith}
use lib.Dec.{eqb}
use lib.IntN.{pos}
use lib.ListN.{length}
use borrow.Author.Tests.{eqb-true, eqb-false, not-true, not-false}
use Rattle.math_functions.specs.declared.types.Vec3.{Vec3}
use Rattle.solver.specs.declared.StepContext.{StepContext}
use Rattle.records.specs.declared.body.BodyState.{BodyState}
use Rattle.records.specs.declared.joint.JointSim.{JointSim}
use Rattle.records.specs.declared.joint.JointUnion.{JointUnion}
use Rattle.records.specs.declared.joint.JointUnion.TheVariants.{Revolute, Spherical, Weld, Other}
use Rattle.records.specs.Body.{is_dynamic, with_velocities, store_velocities}
use Rattle.records.specs.Joint.{case_of}
use Rattle.constraint.specs.Answer.{no_report}
use Rattle.joint.specs.Stage.{Staged, solve_joint, stage_joint}
use Rattle.joint.specs.Index.{index_a, index_b, bad_index}
use Rattle.scene.specs.Scene.{state_at, store}
use Rattle.scene.specs.Plain.{verdict_of, store_both}
use Rattle.scene.specs.Claims.{LimitsNonNegative}
use Rattle.scene.proofs.Stages.{stage_keeps, warm_keeps, solve_limits_lem}
use Rattle.scene.proofs.Stores.{store_long, both_rest}
use Rattle.scene.proofs.Framed.{only_impulses}
use Rattle.scene.proofs.Changes.{not_stored, only_velocities}
use Rattle.scene.proofs.Accepted.{Says, says_of, says_other, says_index, Answers, answers_nil, answers_test, answers_numbers, answers_none, answers_hold}
use Rattle.direct.specs.Direct.{StageCall}
use Rattle.direct.specs.Direct.{is_of_kind, cause, refused, done, stage_at, direct_call, warm_start, solve}
use Rattle.direct.specs.Claims.{Cause1, tests, Numbers, Acceptance, Range, Refusal, OnlyChanges, Changes, WarmStartKeeps}
use Rattle.direct.specs.Claims.{PairStored, OneBodyTwice, OneCall, LimitsAfterCall, SolveReports, NoMarks}
use Rattle.direct.proofs.Outcomes.{its_cause, by_outcome, number_is, place_is}
use Rattle.direct.proofs.Stored.{at_b, pair_at}
use Rattle.direct.proofs.OneCall.{same_end}

-- ---- numbers

says_kind : (kind c : ℕ) (u : JointUnion) → case_of u ≡ c → u ≢ Other → Says (not (eqb kind c)) (Cause1 kind u)
says_kind kind c u is three =
    says_of (not (eqb kind c))
    (λ e. inl (λ p. eqb-false kind c (not-true (eqb kind c) e) (sym p ∙ is)))
    (λ e. ⊎_elim (λ ne. ne (is ∙ sym (eqb-true kind c (not-false (eqb kind c) e)))) three)

says_1 : (kind : ℕ) (u : JointUnion) → Says (not (is_of_kind kind u)) (Cause1 kind u)
says_1 kind (Revolute r) = says_kind kind 0 (Revolute r) refl (says_other (Revolute r))
says_1 kind (Spherical r) = says_kind kind 1 (Spherical r) refl (says_other (Spherical r))
says_1 kind (Weld r) = says_kind kind 2 (Weld r) refl (says_other (Weld r))
says_1 kind Other = inr refl

three_tests : (k b₂ b₃ : Bool)
    → cond (not k) (verdict_of 1 0) (cond b₂ (verdict_of 2 0) (cond b₃ (verdict_of 3 0) (verdict_of 0 0))) ≡ verdict_of (cond k (cond b₂ 2 (cond b₃ 3 0)) 1) 0
three_tests false b₂ b₃ = refl
three_tests true true b₃ = refl
three_tests true false true = refl
three_tests true false false = refl

answers : (call : StageCall) (joint : JointSim) (states : List BodyState) → Answers (tests call joint states) (verdict_of (its_cause call joint states) 0)
unfolding cause
answers call joint states =
    let u = joint.union_ in
    let k = is_of_kind call.kind u in
    let b₂ = bad_index (length states) (index_a u) in
    let b₃ = bad_index (length states) (index_b u) in
    rw (sym (three_tests k b₂ b₃))
    (answers_test (not k) 1 0 _ _ (λ e. omega arith) (says_1 call.kind u)
    (answers_test b₂ 2 0 _ _ (λ e. omega arith) (says_index (length states) (index_a u))
    (answers_test b₃ 3 0 _ _ (λ e. omega arith) (says_index (length states) (index_b u)) answers_nil)))

pub numbers : Numbers
numbers call joint states number ne =
    let same = number_is call joint states in
    let given = answers_numbers (tests call joint states) (verdict_of (its_cause call joint states) 0) (answers call joint states) number 0 ne in
    (λ e. given.0 (sym same ∙ e, refl), λ h. same ∙ (given.1 h).0)

pub acceptance : Acceptance
acceptance call joint states =
    let same = number_is call joint states in
    let given = answers_none (tests call joint states) (verdict_of (its_cause call joint states) 0) (answers call joint states) in
    ((λ e. given.0 (sym same ∙ e), λ h. same ∙ given.1 h), place_is call joint states)

pub range : Range
range call joint states =
    let same = number_is call joint states in
    rw same
    (answers_hold (λ n p. n ≤ 3) (tests call joint states) (verdict_of (its_cause call joint states) 0) (answers call joint states) (omega arith)
    (omega arith, (omega arith, (omega arith, tt))))

pub refusal : Refusal
refusal call joint states =
    by_outcome call joint states (λ o. o.answer.number ≢ 0 → (o.joint ≡ joint) × (o.states ≡ states)) (λ e ne. absurd (ne refl)) (λ ne ne'. (refl, refl))

-- ---- what may change

pub changes : Changes
changes call joint states = by_outcome call joint states (OnlyChanges joint states) (λ e. worked) (λ ne. unaltered)
  where
    worked : OnlyChanges joint states (done joint states (stage_at call joint states))
    worked =
        let u = joint.union_ in
        let a = state_at states (index_a u) in
        let b = state_at states (index_b u) in
        let r = stage_at call joint states in
        let v = r.velocities in
        record {
          impulses = only_impulses joint r.joint (stage_keeps joint call.context a b call.stage);
          as_many =
              store_long (store states (index_a u) v.v_a v.w_a) (index_b u) v.v_b v.w_b ∙ store_long states (index_a u) v.v_a v.w_a;
          velocities = only_velocities (store_both states u v) states (both_rest states u v);
          state_kept = λ n h. not_stored states u n h v;
        }

    unaltered : {number : ℕ} → OnlyChanges joint states (refused number joint states)
    unaltered =
        record {
          impulses = record { base = refl; case = refl; index_a_lem = refl; index_b_lem = refl; settings = refl };
          as_many = refl;
          velocities = λ n. record { delta_position = refl; delta_rotation = refl; flags = refl };
          state_kept = λ n h. refl;
        }

pub warm_start_keeps : WarmStartKeeps
warm_start_keeps kind joint states =
    by_outcome (warm_start kind) joint states (λ after. after.joint ≡ joint)
    (λ e. warm_keeps joint _ _ _ 0 refl) (λ ne. refl)

-- ---- stores

pub pair_stored : PairStored
pair_stored states u v = pair_at states (index_a u) (index_b u) v

stored_dynamic : (x : BodyState) (v w : Vec3) → is_dynamic x ≡ true → store_velocities x v w ≡ with_velocities x v w
unfolding store_velocities
stored_dynamic x v w d = rw d

-- both indices name the state `n`
module _ (call : StageCall) (joint : JointSim) (states : List BodyState) (n : ℕ)
    (is-a : index_a joint.union_ ≡ pos n) (is_b : index_b joint.union_ ≡ pos n) where
  abbrev u : JointUnion
  u = joint.union_

  abbrev x : BodyState
  x = state_at states (pos n)

  abbrev twice : Staged
  twice = stage_joint joint call.context x x call.stage

  -- the state with the velocities that a stage gives B
  abbrev of_b : Staged → BodyState
  of_b r = with_velocities x r.velocities.v_b r.velocities.w_b

  -- the two states that are read are one
  same_read : stage_at call joint states ≡ twice
  same_read = ap₂ (λ i j. stage_joint joint call.context (state_at states i) (state_at states j) call.stage) is-a is_b

  b_remains : is_dynamic x ≡ true → (direct_call call joint states).answer.number ≡ 0
      → state_at (store_both states u (stage_at call joint states).velocities) (pos n) ≡ of_b twice
  b_remains dynamic e =
      let none = (acceptance call joint states).0.0 e in
      let v = (stage_at call joint states).velocities in
      ap (state_at (store_both states u v)) (sym is_b)
      ∙ at_b states (index_a u) (index_b u) v none.1.0 none.1.1.0
      ∙ ap (λ i. store_velocities (state_at states i) v.v_b v.w_b) is_b
      ∙ stored_dynamic x v.v_b v.w_b dynamic
      ∙ ap of_b same_read

  b_at_exit : is_dynamic x ≡ true → (direct_call call joint states).answer.number ≡ 0 → state_at (direct_call call joint states).states (pos n) ≡ of_b twice
  b_at_exit dynamic e =
      by_outcome call joint states (λ o. o.answer.number ≡ 0 → state_at o.states (pos n) ≡ of_b twice)
      (λ z k. b_remains dynamic e) (λ ne k. absurd (ne k)) e

pub one_body_twice : OneBodyTwice
one_body_twice = b_at_exit

-- ---- a list of one call

pub one_call : OneCall
one_call = same_end

-- ---- limits

a_solve : (use_bias : Bool) → ◌≢◌ {A = ℕ} (cond use_bias 1 2) 0
a_solve true e = omega arith
a_solve false e = omega arith

pub limits_after_call : LimitsAfterCall
limits_after_call kind context use_bias joint states e free =
    by_outcome (solve kind context use_bias) joint states (λ o. o.answer.number ≡ 0 → LimitsNonNegative joint.union_ o.joint.union_)
    (λ z e. let u = joint.union_ in
    solve_limits_lem joint context (state_at states (index_a u)) (state_at states (index_b u)) (cond use_bias 1 2) (a_solve use_bias) free)
    (λ ne e. absurd (ne e)) e

-- ---- marks

solve_report : (joint : JointSim) (context : StepContext) (a b : BodyState) (use_bias : Bool)
    → (stage_joint joint context a b (cond use_bias 1 2)).report ≡ (solve_joint joint context a b use_bias).report
unfolding stage_joint
solve_report joint context a b true = refl
solve_report joint context a b false = refl

warm_start_report : (joint : JointSim) (context : StepContext) (a b : BodyState) → (stage_joint joint context a b 0).report ≡ no_report
unfolding stage_joint
warm_start_report joint context a b = refl

pub solve_reports : SolveReports
solve_reports kind context use_bias joint states e =
    let u = joint.union_ in
    let a = state_at states (index_a u) in
    let b = state_at states (index_b u) in
    by_outcome (solve kind context use_bias) joint states
    (λ o. o.answer.number ≡ 0 → o.answer.report ≡ (solve_joint joint context a b use_bias).report)
    (λ z e. solve_report joint context a b use_bias) (λ ne e. absurd (ne e)) e

pub no_marks : NoMarks
no_marks = record {
  warm_start_lem = λ kind joint states. by_outcome (warm_start kind) joint states (λ o. o.answer.report ≡ no_report)
      (λ e. warm_start_report joint _ _ _) (λ ne. refl);
  refused = λ call joint states. by_outcome call joint states (λ o. o.answer.number ≢ 0 → o.answer.report ≡ no_report)
      (λ e ne. absurd (ne refl)) (λ ne ne'. refl);
}
