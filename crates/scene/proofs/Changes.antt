-- What a run may change, and what it leaves as it was. Assumes nothing.
use mathlib.Core.Path.{◌≡◌, refl, sym, ap, ◌∙◌}
use mathlib.Core.Logic.{inl, inr, ⊎_elim, ◌≢◌}
use mathlib.Core.Bool.{Bool, true, false}
use mathlib.Core.List.{List, [], ◌∷◌}
use Prim.Native.Nat.{ℕ}
use lib.Dec.{eqb}
use lib.IntN.{ℤ, pos}
use lib.ListN.{length, get_or, set, length-map}
use lib.Seq.{get_or-set_other, set-get_or}
use borrow.Author.Tests.{eqb-true, eqb-false}
use Rattle.records.specs.declared.body.BodyState.{BodyState}
use Rattle.records.specs.declared.joint.JointUnion.{JointUnion}
use Rattle.records.specs.Body.{is_dynamic, identity_body_state}
use Rattle.constraint.specs.declared.velocity.Velocities.{Velocities}
use Rattle.scene.specs.declared.Scene.{Scene}
use Rattle.records.specs.Joint.{unused_joint}
use Rattle.joint.specs.Index.{index_a, index_b}
use Rattle.scene.specs.Scene.{joint_at, body_at, Dynamic, NamesBody, Names}
use Rattle.scene.specs.Calls.{Call, Listed, SolveListed}
use Rattle.scene.proofs.Stages.{warm_keeps}
use Rattle.scene.specs.Plain.{stage_at, store_both, step, run_all}
use Rattle.scene.specs.Claims.{OnlyVelocities, settings_of, OnlyChanges}
use Rattle.scene.proofs.Stores.{rest_of, SameRest, rest_at, dynamic_at, clash, both_unseen}
use Rattle.scene.proofs.Framed.{Framed, framed, framed_start, framed_step, fixed_at}
use Rattle.scene.proofs.Order.{clash_yes}

-- ---- a body that is not dynamic, or that no listed joint names

pub pos_of : (m n : ℕ) → pos m ≡ pos n → m ≡ n
pos_of m n e = cc

module _ (bs : List BodyState) (u : JointUnion) (n : ℕ) (h : NamesBody u n → ¬ (is_dynamic (get_or bs n identity_body_state) ≡ true)) where
  clear : (x : ℤ) → (x ≡ pos n → NamesBody u n) → clash bs x (pos n) ≡ false
  clear x names = by (clash bs x (pos n)) refl
    where
      by : (b : Bool) → clash bs x (pos n) ≡ b → b ≡ false
      by true e =
          let r = clash_yes bs x (pos n) e in
          let k : n ≡ r.0 = pos_of n r.0 r.2 in
          absurd (h (names (r.1 ∙ ap pos (sym k))) (ap (λ m. is_dynamic (get_or bs m identity_body_state)) k ∙ r.3))
      by false e = refl

  -- the stores of a call are not seen there
  pub not_stored : (v : Velocities) → get_or (store_both bs u v) n identity_body_state ≡ get_or bs n identity_body_state
  not_stored v = both_unseen bs u v (pos n) (clear (index_a u) inl, clear (index_b u) inr)

call_keeps_body : (s : Scene) (n : ℕ) (c : Call) (t : Scene) → Framed s t → (Names s c.slot n → ¬ (Dynamic s n)) → body_at (step c t) n ≡ body_at t n
unfolding step
call_keeps_body s n c t f h =
    let j = joint_at t c.slot in
    let same = fixed_at s t f c.slot in
    not_stored t.bodies j.union_ n
    (λ names d. h
    (⊎_elim (λ e. inl (sym same.index_a_lem ∙ e)) (λ e. inr (sym same.index_b_lem ∙ e)) names)
    (sym (dynamic_at t.bodies s.bodies f.bodies n) ∙ d))
    (stage_at t j c.stage).velocities

bodies_kept : (s : Scene) (n : ℕ) (l : List Call) (t : Scene) → Framed s t
    → ((j : ℕ) → Listed j l → Names s j n → ¬ (Dynamic s n))
    → body_at (run_all step l t) n ≡ body_at t n
bodies_kept s n [] t f h = refl
bodies_kept s n (c ∷ l) t f h =
    bodies_kept s n l (step c t) (framed_step s c t f) (λ j p. h j (inr p)) ∙ call_keeps_body s n c t f (h c.slot (inl refl))

-- ---- a joint that no call solves

pub call_keeps_joint : (j : ℕ) (c : Call) (s : Scene) → c.slot ≢ j → joint_at (step c s) j ≡ joint_at s j
unfolding step
call_keeps_joint j c s h = get_or-set_other s.joints c.slot j _ unused_joint (λ p. h (sym p))

warm_start_keeps : (c : Call) (s : Scene) → c.stage ≡ 0 → (step c s).joints ≡ s.joints
unfolding step
warm_start_keeps c s e =
    let j = joint_at s c.slot in
    ap (set s.joints c.slot) (warm_keeps j _ _ _ c.stage e) ∙ set-get_or s.joints c.slot unused_joint

unsolved_call : (j : ℕ) (c : Call) (s : Scene) → ¬ ((c.slot ≡ j) × (c.stage ≢ 0)) → joint_at (step c s) j ≡ joint_at s j
unsolved_call j c s h = by (eqb c.stage 0) refl
  where
    by : (b : Bool) → eqb c.stage 0 ≡ b → joint_at (step c s) j ≡ joint_at s j
    by true e = ap (λ joints. get_or joints j unused_joint) (warm_start_keeps c s (eqb-true c.stage 0 e))
    by false e = call_keeps_joint j c s (λ p. h (p, eqb-false c.stage 0 e))

joint_stays : (s : Scene) (l : List Call) (j : ℕ) → ¬ (SolveListed j l) → joint_at (run_all step l s) j ≡ joint_at s j
joint_stays s [] j h = refl
joint_stays s (c ∷ l) j h = joint_stays (step c s) l j (λ p. h (inr p)) ∙ unsolved_call j c s (λ p. h (inl p))

-- ---- all else

pub only_velocities : (bs cs : List BodyState) → SameRest bs cs → (n : ℕ) → OnlyVelocities (get_or cs n identity_body_state) (get_or bs n identity_body_state)
only_velocities bs cs e n =
    let rest = rest_at bs cs e n in
    record { delta_position = ap (λ x. x.delta_position) rest; delta_rotation = ap (λ x. x.delta_rotation) rest; flags = ap (λ x. x.flags) rest }

pub only_changes : (s : Scene) (l : List Call) → OnlyChanges s l (run_all step l s)
only_changes s l =
    let t = run_all step l s in
    let f = framed s l in
    record {
      body_count = f.body_count;
      joint_count = f.joint_count;
      context = f.context;
      as_many_bodies = sym (length-map t.bodies rest_of) ∙ ap length f.bodies ∙ length-map s.bodies rest_of;
      as_many_joints = sym (length-map t.joints settings_of) ∙ ap length f.joints ∙ length-map s.joints settings_of;
      bodies = λ n. only_velocities t.bodies s.bodies f.bodies n;
      joints = fixed_at s t f;
      body_kept = λ n h. bodies_kept s n l s (framed_start s) h;
      joint_kept = λ j h. joint_stays s l j h;
    }

-- a refused run leaves the scene as it is
pub nothing_changes : (s : Scene) (l : List Call) → OnlyChanges s l s
nothing_changes s l =
    record {
      body_count = refl;
      joint_count = refl;
      context = refl;
      as_many_bodies = refl;
      as_many_joints = refl;
      bodies = λ n. record { delta_position = refl; delta_rotation = refl; flags = refl };
      joints = λ j. record { base = refl; case = refl; index_a_lem = refl; index_b_lem = refl; settings = refl };
      body_kept = λ n h. refl;
      joint_kept = λ j h. refl;
    }
