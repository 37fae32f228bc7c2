-- A direct call, and a call list of that one call. Assumes nothing.
use mathlib.Core.Path.{◌≡◌, refl, sym, ap, ◌∙◌}
use mathlib.Core.Logic.{inl, inr, ◌≢◌}
use mathlib.Core.Bool.{Bool, true, false, cond}
use mathlib.Core.List.{List, [], ◌∷◌}
use Prim.Native.Nat.{ℕ, zero, suc, ◌≤◌, ◌<◌}
use native.Mathlib.Omega.{arith}
use lib.Dec.{eqb}
use lib.IntN.{ℤ, pos, negsuc}
use lib.ListN.{length, get_or, set, take}
use lib.Seq.{get_or-set_same, length-take-le, take-set-lt, get_or-take}
use borrow.Author.Tests.{eq-eqb, ne_eqb, eqb-true, eqb-false, le-ltb, lt-leb, leb-false}
use Rattle.math_functions.specs.declared.types.Vec3.{Vec3}
use Rattle.solver.specs.declared.StepContext.{StepContext}
use Rattle.records.specs.declared.body.BodyState.{BodyState}
use Rattle.records.specs.declared.joint.JointSim.{JointSim}
use Rattle.records.specs.declared.joint.JointUnion.{JointUnion}
use Rattle.records.specs.declared.joint.JointUnion.TheVariants.{Revolute, Spherical, Weld, Other}
use Rattle.records.specs.Body.{store_velocities, identity_body_state}
use Rattle.records.specs.Joint.{is_other, unused_joint}
use Rattle.joint.specs.Stage.{Staged, stage_joint}
use Rattle.joint.specs.Index.{index_a, index_b, bad_index, index_cause}
use Rattle.scene.specs.declared.Scene.{Scene}
use Rattle.scene.specs.Scene.{joint_at, state_at, store}
use Rattle.scene.specs.Calls.{call}
use Rattle.scene.specs.Plain as Plain
use Rattle.scene.specs.Plain.{verdict_of, early_cause, verdict, store_both, step, plain_run}
use Rattle.scene.proofs.Accepted.{run_accepted, run_refused}
use Rattle.direct.specs.Direct.{StageCall}
use Rattle.direct.specs.Direct.{is_of_kind, cause, Outcome, stage_at, direct_call}
use Rattle.direct.proofs.Outcomes.{its_cause, worked_is, refused_is}
use Rattle.direct.specs.Claims.{call_of, counted, Callable, OfKind, SameEnd}

-- ---- the counted part of a list

take_state : (l : List BodyState) (n : ℕ) (i : ℤ) → bad_index n i ≡ false → state_at (take n l) i ≡ state_at l i
take_state l n (pos k) e = get_or-take n l k identity_body_state (leb-false n k e)
take_state l n (negsuc k) e = refl

take_store : (l : List BodyState) (n : ℕ) (i : ℤ) (v w : Vec3) → bad_index n i ≡ false → take n (store l i v w) ≡ store (take n l) i v w
unfolding store
take_store l n (pos k) v w e =
    let h = leb-false n k e in
    take-set-lt n l k (store_velocities (get_or l k identity_body_state) v w) h
    ∙ ap (λ x. set (take n l) k (store_velocities x v w)) (sym (get_or-take n l k identity_body_state h))
take_store l n (negsuc k) v w e = refl

-- ---- the tests of a call of a list and of a direct call

by_kind : (kind : ℕ) (u : JointUnion) (rest : ℕ) → OfKind kind u → cond (is_other u) 1 rest ≡ cond (is_of_kind kind u) rest 1
by_kind kind u rest (inl e) = rw e
by_kind kind (Revolute r) rest (inr e) = rw (eq-eqb kind 0 (sym e))
by_kind kind (Spherical r) rest (inr e) = rw (eq-eqb kind 1 (sym e))
by_kind kind (Weld r) rest (inr e) = rw (eq-eqb kind 2 (sym e))
by_kind kind Other rest (inr e) = refl

-- where no index test holds
none_bad : (a b : Bool) → ◌≡◌ {A = ℕ} (cond a 2 (cond b 3 0)) 0 → (a ≡ false) × (b ≡ false)
none_bad true b e = absurd (omega arith)
none_bad false true e = absurd (omega arith)
none_bad false false e = (refl, refl)

kind_then : (a : Bool) (rest : ℕ) → ◌≡◌ {A = ℕ} (cond a rest 1) 0 → rest ≡ 0
kind_then true rest e = e
kind_then false rest e = absurd (omega arith)

-- ---- a stage

-- a warm start reads no step context
no_context : (joint : JointSim) (c d : StepContext) (a b : BodyState) → stage_joint joint c a b 0 ≡ stage_joint joint d a b 0
unfolding stage_joint
no_context joint c d a b = refl

same_stage : (kind stage : ℕ) (x : StepContext) (joint : JointSim) (a b : BodyState) → stage ≤ 2
    → stage_joint joint x a b stage ≡ stage_joint joint (call_of kind stage x).context a b (call_of kind stage x).stage
same_stage kind zero x joint a b low = no_context joint _ _ a b
same_stage kind (suc zero) x joint a b low = refl
same_stage kind (suc (suc zero)) x joint a b low = refl
same_stage kind (suc (suc (suc n))) x joint a b low = absurd (omega arith)

kind_of : (kind stage : ℕ) (x : StepContext) → (call_of kind stage x).kind ≡ kind
kind_of kind zero x = refl
kind_of kind (suc zero) x = refl
kind_of kind (suc (suc n)) x = refl

-- ---- a list of one call

module _ (s : Scene) (slot stage kind : ℕ) (ok : Callable s slot stage) (of : OfKind kind (joint_at s slot).union_) where
  abbrev joint : JointSim
  joint = joint_at s slot

  abbrev u : JointUnion
  u = joint.union_

  abbrev n : ℕ
  n = s.body_count

  abbrev direct : StageCall
  direct = call_of kind stage s.context

  abbrev outcome : Outcome
  outcome = direct_call direct joint (counted s)

  long : length (counted s) ≡ n
  long = length-take-le n s.bodies (rw ok.whole_bodies ok.few_bodies)

  -- the cause of the list's call, and of the direct call
  abbrev k : ℕ
  k = Plain.cause s (call slot stage)

  same_cause : k ≡ its_cause direct joint (counted s)
  unfolding Plain.cause cause
  same_cause =
      rw (long, kind_of kind stage s.context, lt-leb s.joint_count slot ok.slot_counted, le-ltb 2 stage ok.stage_known)
      (by_kind kind u (index_cause n u) of)

  early : early_cause n s.joint_count 2 ≡ 0
  unfolding early_cause
  early = rw (le-ltb 32 n ok.few_bodies, le-ltb 32 s.joint_count ok.few_joints)

  its_verdict : verdict s (slot ∷ stage ∷ []) ≡ cond (eqb k 0) (verdict_of 0 0) (verdict_of k 0)
  unfolding verdict
  its_verdict = rw early

  -- neither index is bad where nothing is refused
  fine : k ≡ 0 → (bad_index n (index_a u) ≡ false) × (bad_index n (index_b u) ≡ false)
  unfolding cause
  fine e =
      none_bad (bad_index n (index_a u)) (bad_index n (index_b u))
      (kind_then (is_of_kind direct.kind u) (index_cause n u) (rw long at (sym same_cause ∙ e)))

  -- the stage of the list's call, and of the direct call
  same_staged : k ≡ 0 → Plain.stage_at s joint stage ≡ stage_at direct joint (counted s)
  same_staged e =
      let f = fine e in
      rw (take_state s.bodies n (index_a u) f.0, take_state s.bodies n (index_b u) f.1)
      (same_stage kind stage s.context joint (state_at s.bodies (index_a u)) (state_at s.bodies (index_b u)) ok.stage_known)

  take_both : k ≡ 0 → (r : Staged) → take n (store_both s.bodies u r.velocities) ≡ store_both (counted s) u r.velocities
  take_both e r =
      let f = fine e in
      let v = r.velocities in
      take_store (store s.bodies (index_a u) v.v_a v.w_a) n (index_b u) v.v_b v.w_b f.1
      ∙ ap (λ l. store l (index_b u) v.v_b v.w_b) (take_store s.bodies n (index_a u) v.v_a v.w_a f.0)

  slot_in : slot < length s.joints
  slot_in = rw ok.whole_joints (omega (arith, ok.slot_counted, ok.few_joints))

  ran : k ≡ 0 → plain_run s (slot ∷ stage ∷ []) ≡ Plain.done s (step (call slot stage) s)
  ran e =
      let f : verdict s (slot ∷ stage ∷ []) ≡ verdict_of 0 0 = its_verdict ∙ rw (eq-eqb k 0 e) in
      run_accepted s (slot ∷ stage ∷ []) (ap (λ v. v.number) f)

  stopped : k ≢ 0 → plain_run s (slot ∷ stage ∷ []) ≡ Plain.refused (verdict_of k 0) s
  stopped ne =
      let e : verdict s (slot ∷ stage ∷ []) ≡ verdict_of k 0 = its_verdict ∙ rw (ne_eqb k 0 ne) in
      run_refused s (slot ∷ stage ∷ []) (λ z. ne (sym (ap (λ v. v.number) e) ∙ z)) ∙ ap (λ v. Plain.refused v s) e

  pub same_end : SameEnd s slot stage kind
  unfolding step
  same_end = by (eqb k 0) refl
    where
      by : (b : Bool) → eqb k 0 ≡ b → SameEnd s slot stage kind
      by true t =
          let e = eqb-true k 0 t in
          let r = ran e in
          let o = worked_is direct joint (counted s) (sym same_cause ∙ e) in
          let g = same_staged e in
          record {
            number = ap (λ x. x.number) r ∙ sym (ap (λ x. x.answer.number) o);
            place = ap (λ x. x.place) r ∙ sym (ap (λ x. x.answer.place) o);
            joint =
                ap (λ x. joint_at x.scene slot) r
                ∙ get_or-set_same s.joints slot (Plain.stage_at s joint stage).joint unused_joint slot_in
                ∙ ap (λ x. x.joint) g
                ∙ sym (ap (λ x. x.joint) o);
            states =
                ap (λ x. counted x.scene) r
                ∙ take_both e (Plain.stage_at s joint stage)
                ∙ ap (λ x. store_both (counted s) u x.velocities) g
                ∙ sym (ap (λ x. x.states) o);
          }
      by false t =
          let ne = eqb-false k 0 t in
          let r = stopped ne in
          let o = refused_is direct joint (counted s) (λ z. ne (same_cause ∙ z)) in
          record {
            number = ap (λ x. x.number) r ∙ same_cause ∙ sym (ap (λ x. x.answer.number) o);
            place = ap (λ x. x.place) r ∙ sym (ap (λ x. x.answer.place) o);
            joint = ap (λ x. joint_at x.scene slot) r ∙ sym (ap (λ x. x.joint) o);
            states = ap (λ x. counted x.scene) r ∙ sym (ap (λ x. x.states) o);
          }
