-- One pass of the run's loop is one call of the plain run. Assumes nothing.
use mathlib.Core.Path.{◌≡◌, refl, sym, ap, ◌∙◌}
use mathlib.Core.Bool.{Bool, true, false, cond}
use mathlib.Core.List.{List}
use Prim.Native.Nat.{ℕ, ◌≤◌}
use native.Mathlib.Omega.{arith}
use lib.Dec.{ltb}
use lib.ListN.{length, get_or, set, length-set, get_or-eq_default}
use lib.Seq.{set-get_or, set_out}
use borrow.Author.Tests.{ltb-true, ltb-false}
use Rattle.records.specs.declared.body.BodyState.{BodyState}
use Rattle.records.specs.declared.joint.JointSim.{JointSim}
use Rattle.records.specs.Body.{is_dynamic, with_velocities, store_velocities}
use Rattle.records.specs.Joint.{unused_joint}
use Rattle.constraint.specs.declared.velocity.Velocities.{Velocities}
use Rattle.constraint.specs.Velocity.{velocities_of}
use Rattle.constraint.specs.Answer.{no_report}
use Rattle.joint.specs.Stage.{staged, stage_joint}
use Rattle.joint.specs.Index.{index_a, index_b}
use Rattle.scene.specs.declared.Scene.{Scene}
use Rattle.scene.specs.Scene.{with_bodies_and_joints, state_at, store}
use Rattle.scene.specs.Calls.{call}
use Rattle.scene.specs.Plain.{stage_at, store_both, placed, step}
use Rattle.std.proofs.lemmas.List.{get_or_default}
use Rattle.call_list.specs.Positions.{body_position, joint_position, with_identity}
use Rattle.call_list.proofs.Elements.{joint_position_in, seen_is, kept_is, store_long}
use Rattle.call_list.proofs.Arms.{stage_in, ArmWorked}

-- a body's own velocities stored leave it as it was
own_stays : (x : BodyState) → store_velocities x x.linear_velocity x.angular_velocity ≡ x
unfolding store_velocities
own_stays x = by (is_dynamic x)
  where
    by : (d : Bool) → cond d (with_velocities x x.linear_velocity x.angular_velocity) x ≡ x
    by true = refl
    by false = refl

-- past the last slot a call of the plain run changes nothing
step_none : (s : Scene) (us : List BodyState) (js : List JointSim) (slot stage : ℕ) → length js ≤ slot
    → step (call slot stage) (with_bodies_and_joints s us js) ≡ with_bodies_and_joints s us js
unfolding step store
step_none s us js slot stage h = rw (get_or-eq_default js unused_joint {n = slot} h) (ap (with_bodies_and_joints s us) (set_out js slot _ h))

-- what a pass of the loop leaves: `ws`, which is `bodies` with the identity state after them, and `next` are those of the scene after the call
pub record CallWorked (s : Scene) (js : List JointSim) (us ws : List BodyState) (slot stage : ℕ) (next : List JointSim) : Type 0 where
  pub bodies : List BodyState
  pub holds : ws ≡ with_identity bodies
  pub long_bodies : length bodies ≡ 32
  pub long_joints : length next ≡ 32
  pub stepped : with_bodies_and_joints s bodies next ≡ step (call slot stage) (with_bodies_and_joints s us js)

-- from what the code's calls gave, a pass is one call of the plain run
module _ (s : Scene) (js : List JointSim) (us ws : List BodyState) (slot stage at pa pb : ℕ) (d : JointSim) (e na nb : BodyState)
    (next : List JointSim) (v : Velocities) (lb : length us ≡ 32) (lj : length js ≡ 32) (ew : ws ≡ with_identity us)
    (ka : na ≡ store_velocities (get_or ws pa e) v.v_a v.w_a) (kb : nb ≡ store_velocities (get_or (set ws pa na) pb e) v.v_b v.w_b) where
  abbrev joint : JointSim
  joint = get_or js at d

  abbrev a : BodyState
  a = get_or ws pa e

  abbrev b : BodyState
  b = get_or ws pb e

  -- past the last slot
  worked_past : ltb slot 32 ≡ false → ArmWorked js at (staged joint (velocities_of a b) no_report) next v
      → CallWorked s js us (set (set ws pa na) pb nb) slot stage next
  unfolding velocities_of
  worked_past f arm =
      let na-is : na ≡ a = ka ∙ ap (λ x. store_velocities a x.v_a x.w_a) arm.moved ∙ own_stays a in
      let one : set ws pa na ≡ ws = ap (set ws pa) na-is ∙ set-get_or ws pa e in
      let nb-is : nb ≡ b =
      kb ∙ ap (λ l. store_velocities (get_or l pb e) v.v_b v.w_b) one ∙ ap (λ x. store_velocities b x.v_b x.w_b) arm.moved ∙ own_stays b in
      let two : set (set ws pa na) pb nb ≡ ws = ap (λ l. set l pb nb) one ∙ ap (set ws pb) nb-is ∙ set-get_or ws pb e in
      let same : next ≡ js = arm.stored ∙ set-get_or js at d in
      let out : length js ≤ slot = omega (arith, lj, ltb-false slot 32 f) in
      record {
        bodies = us;
        holds = two ∙ ew;
        long_bodies = lb;
        long_joints = ap length same ∙ lj;
        stepped = ap (with_bodies_and_joints s us) same ∙ sym (step_none s us js slot stage out);
      }

  -- in a slot
  worked_in : ltb slot 32 ≡ true → at ≡ joint_position slot → pa ≡ body_position (index_a joint.union_) → pb ≡ body_position (index_b joint.union_)
      → ArmWorked js at (stage_joint joint s.context a b stage) next v
      → CallWorked s js us (set (set ws pa na) pb nb) slot stage next
  unfolding step
  worked_in f ha hpa hpb arm =
      let h = ltb-true slot 32 f in
      let y = index_a joint.union_ in
      let z = index_b joint.union_ in
      let q : at ≡ slot = ha ∙ joint_position_in slot h in
      let one = store us y v.v_a v.w_a in
      let g : set ws pa na ≡ with_identity one = rw (ew, hpa) (kept_is us lb y na e v.v_a v.w_a (rw (ew, hpa) at ka)) in
      let lb' = store_long us y v.v_a v.w_a lb in
      let sa : a ≡ state_at us y = rw (ew, hpa) (seen_is us lb y e) in
      let sb : b ≡ state_at us z = rw (ew, hpb) (seen_is us lb z e) in
      let same : joint ≡ get_or js slot unused_joint = rw q (get_or_default js slot d unused_joint (rw lj h)) in
      record {
        bodies = store one z v.v_b v.w_b;
        holds = rw (g, hpb) (kept_is one lb' z nb e v.v_b v.w_b (rw (g, hpb) at kb));
        long_bodies = store_long one z v.v_b v.w_b lb';
        long_joints = ap length arm.stored ∙ length-set js at _ ∙ lj;
        stepped = finish joint (get_or js slot unused_joint) same a b sa sb arm.moved arm.stored q;
      }
    where
      finish : (j k : JointSim) → j ≡ k → (a b : BodyState) → a ≡ state_at us (index_a j.union_) → b ≡ state_at us (index_b j.union_)
          → v ≡ (stage_joint j s.context a b stage).velocities
          → next ≡ set js at (stage_joint j s.context a b stage).joint
          → at ≡ slot
          → with_bodies_and_joints s (store_both us j.union_ v) next
          ≡ placed (with_bodies_and_joints s us js) slot k (stage_at (with_bodies_and_joints s us js) k stage)
      finish j k e a b ea eb ev en q = rw (ev, en, ea, eb, q, e)

  pub call_worked : at ≡ joint_position slot → pa ≡ body_position (index_a joint.union_) → pb ≡ body_position (index_b joint.union_)
      → ArmWorked js at (stage_in slot joint s.context a b stage) next v
      → CallWorked s js us (set (set ws pa na) pb nb) slot stage next
  call_worked ha hpa hpb arm = by (ltb slot 32) refl arm
    where
      by : (t : Bool) → ltb slot 32 ≡ t → ArmWorked js at (cond t (stage_joint joint s.context a b stage) (staged joint (velocities_of a b) no_report)) next v
          → CallWorked s js us (set (set ws pa na) pb nb) slot stage next
      by true f arm = worked_in f ha hpa hpb arm
      by false f arm = worked_past f arm
