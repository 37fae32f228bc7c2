-- What every call leaves as it was fed: of each body all but the velocities, of each joint all but what a solve writes, and the counts and the context. So no
-- call can be refused midway. Assumes nothing.
use mathlib.Core.Path.{◌≡◌, refl, sym, ap, ap₂, ◌∙◌}
use mathlib.Core.List.{List, [], ◌∷◌, map}
use Prim.Native.Nat.{ℕ}
use lib.ListN.{get_or, get_or-map}
use lib.Seq.{map-set_same}
use Rattle.records.specs.declared.joint.RevoluteJoint.{RevoluteJoint}
use Rattle.records.specs.declared.joint.SphericalJoint.{SphericalJoint}
use Rattle.records.specs.declared.joint.WeldJoint.{WeldJoint}
use Rattle.records.specs.declared.joint.JointUnion.{JointUnion}
use Rattle.records.specs.declared.joint.JointUnion.TheVariants.{Revolute, Spherical, Weld, Other}
use Rattle.records.specs.declared.joint.JointSim.{JointSim}
use Rattle.records.specs.Joint.{case_of, unused_joint}
use Rattle.joint.specs.Index.{index_a, index_b}
use Rattle.scene.specs.declared.Scene.{Scene}
use Rattle.scene.specs.Scene.{joint_at}
use Rattle.scene.specs.Calls.{Call}
use Rattle.scene.specs.Plain.{cause_in, cause, stage_at, step, run_all}
use Rattle.scene.specs.Claims.{record_settings, settings_of, OnlyImpulses}
use Rattle.scene.proofs.Stages.{stage_keeps}
use Rattle.scene.proofs.Stores.{SameRest, both_rest}

-- what reads nothing of a joint that a solve writes is the same of two joints with the same settings
pub unread : {A : Type 0} (f : JointUnion → A)
    → ((r : RevoluteJoint) → f (record_settings (Revolute r)) ≡ f (Revolute r))
    → ((r : SphericalJoint) → f (record_settings (Spherical r)) ≡ f (Spherical r))
    → ((r : WeldJoint) → f (record_settings (Weld r)) ≡ f (Weld r))
    → (u v : JointUnion) → record_settings u ≡ record_settings v → f u ≡ f v
unread f p q r u v e = sym (at u) ∙ ap f e ∙ at v
  where
    at : (u : JointUnion) → f (record_settings u) ≡ f u
    at (Revolute j) = p j
    at (Spherical j) = q j
    at (Weld j) = r j
    at Other = refl

pub only_impulses : (before after : JointSim) → settings_of after ≡ settings_of before → OnlyImpulses before after
only_impulses before after e =
    let u = before.union_ in
    let v = after.union_ in
    let same = ap (λ j. j.union_) e in
    record {
      base = ap (λ j. j.base) e;
      case = unread case_of (λ r. refl) (λ r. refl) (λ r. refl) v u same;
      index_a_lem = unread index_a (λ r. refl) (λ r. refl) (λ r. refl) v u same;
      index_b_lem = unread index_b (λ r. refl) (λ r. refl) (λ r. refl) v u same;
      settings = e;
    }

-- `t` is as `s` was fed
pub record Framed (s t : Scene) : Type 0 where
  pub bodies : SameRest t.bodies s.bodies
  pub joints : map settings_of t.joints ≡ map settings_of s.joints
  pub body_count : t.body_count ≡ s.body_count
  pub joint_count : t.joint_count ≡ s.joint_count
  pub context : t.context ≡ s.context

pub framed_start : (s : Scene) → Framed s s
framed_start s = record { bodies = refl; joints = refl; body_count = refl; joint_count = refl; context = refl }

pub framed_step : (s : Scene) (c : Call) (t : Scene) → Framed s t → Framed s (step c t)
unfolding step
framed_step s c t f =
    let j = joint_at t c.slot in
    record {
      bodies = both_rest t.bodies j.union_ (stage_at t j c.stage).velocities ∙ f.bodies;
      joints = map-set_same settings_of t.joints c.slot _ unused_joint (stage_keeps j _ _ _ c.stage) ∙ f.joints;
      body_count = f.body_count;
      joint_count = f.joint_count;
      context = f.context;
    }

framed_from : (s : Scene) (l : List Call) (t : Scene) → Framed s t → Framed s (run_all step l t)
framed_from s [] t f = f
framed_from s (c ∷ l) t f = framed_from s l (step c t) (framed_step s c t f)

pub framed : (s : Scene) (l : List Call) → Framed s (run_all step l s)
framed s l = framed_from s l s (framed_start s)

pub fixed_at : (s t : Scene) → Framed s t → (j : ℕ) → OnlyImpulses (joint_at s j) (joint_at t j)
fixed_at s t f j =
    only_impulses (joint_at s j) (joint_at t j)
    (sym (get_or-map settings_of t.joints j unused_joint)
    ∙ ap (λ l. get_or l j (settings_of unused_joint)) f.joints
    ∙ get_or-map settings_of s.joints j unused_joint)

-- ---- a call's cause is the same in every scene that a run passes through

pub cause_kept : (s t : Scene) → Framed s t → (c : Call) → cause t c ≡ cause s c
unfolding cause
cause_kept s t f c =
    let u = (joint_at s c.slot).union_ in
    let v = (joint_at t c.slot).union_ in
    ap₂ (λ m n. cause_in m n v c) f.body_count f.joint_count
    ∙ unread (λ x. cause_in s.body_count s.joint_count x c) (λ r. refl) (λ r. refl) (λ r. refl) v u
    (ap (λ j. j.union_) (fixed_at s t f c.slot).settings)
