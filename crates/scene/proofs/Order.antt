-- Which calls may be exchanged: those of two joints that share no dynamic body. So the theorem on order holds of a scene's calls. Assumes nothing.
use mathlib.Core.Path.{◌≡◌, refl, sym, ap, ap₂, ◌∙◌}
use mathlib.Core.Logic.{◌⊎◌, inl, inr, ⊎_elim, ◌≢◌}
use mathlib.Core.Bool.{Bool, true, false, ◌||◌, true≢false, false≢true, and-eq-true_iff, or_self}
use mathlib.Core.List.{List, [], ◌∷◌}
use Prim.Native.Nat.{ℕ}
use lib.Dec.{eqb}
use lib.IntN.{ℤ, pos, negsuc}
use lib.ListN.{get_or}
use lib.Seq.{get_or-set_other, set_comm}
use borrow.Author.Tests.{eqb-true, eqb-false, eq-eqb}
use Rattle.records.specs.declared.body.BodyState.{BodyState}
use Rattle.records.specs.declared.joint.JointUnion.{JointUnion}
use Rattle.records.specs.declared.joint.JointSim.{JointSim}
use Rattle.records.specs.Body.{is_dynamic, identity_body_state}
use Rattle.records.specs.Joint.{unused_joint}
use Rattle.joint.specs.Stage.{Staged, stage_joint}
use Rattle.scene.specs.declared.Scene.{Scene}
use Rattle.scene.proofs.Reorder.{Steps, or_left, or_right, reorder}
use Rattle.joint.specs.Index.{index_a, index_b}
use Rattle.scene.specs.Scene.{with_bodies_and_joints, joint_at, Dynamic, Names, ShareDynamic}
use Rattle.scene.specs.Calls.{Call, calls, keep_if, only_of, only_of_two}
use Rattle.scene.specs.Plain.{placed, stage_at, step, run_all, done, Accepted, plain_run}
use Rattle.scene.proofs.Stores.{clash, clash_at, Clear, both_unseen, both_swap}
use Rattle.scene.proofs.Framed.{Framed, framed_start, framed_step, fixed_at}

-- ---- two calls of joints that do not clash may be exchanged

step_is : (c : Call) (s : Scene) (j : JointSim) (r : Staged) → joint_at s c.slot ≡ j → stage_at s j c.stage ≡ r → step c s ≡ placed s c.slot j r
unfolding step
step_is c s j r e f = rw (e, f)

-- a stage after another joint's call, whose stores it does not see
stage_after : (s : Scene) (i : ℕ) (j : JointSim) (r : Staged) (k : JointSim) (stage : ℕ)
    → Clear s.bodies j.union_ (index_a k.union_)
    → Clear s.bodies j.union_ (index_b k.union_)
    → stage_at (placed s i j r) k stage ≡ stage_at s k stage
stage_after s i j r k stage ha hb =
    ap₂ (λ x y. stage_joint k s.context x y stage)
    (both_unseen s.bodies j.union_ r.velocities (index_a k.union_) ha)
    (both_unseen s.bodies j.union_ r.velocities (index_b k.union_) hb)

swap_calls : (a b : Call) (s : Scene) → a.slot ≢ b.slot
    → Clear s.bodies (joint_at s a.slot).union_ (index_a (joint_at s b.slot).union_)
    → Clear s.bodies (joint_at s a.slot).union_ (index_b (joint_at s b.slot).union_)
    → Clear s.bodies (joint_at s b.slot).union_ (index_a (joint_at s a.slot).union_)
    → Clear s.bodies (joint_at s b.slot).union_ (index_b (joint_at s a.slot).union_)
    → step b (step a s) ≡ step a (step b s)
swap_calls a b s ne h₁ h₂ h₃ h₄ =
    let i = a.slot in
    let k = b.slot in
    let j = joint_at s i in
    let g = joint_at s k in
    let m = stage_at s j a.stage in
    let n = stage_at s g b.stage in
    let sa = placed s i j m in
    let sb = placed s k g n in
    let ea : step a s ≡ sa = step_is a s j m refl refl in
    let eb : step b s ≡ sb = step_is b s g n refl refl in
    let ga : joint_at sa k ≡ g = get_or-set_other s.joints i k _ unused_joint (λ p. ne (sym p)) in
    let jb : joint_at sb i ≡ j = get_or-set_other s.joints k i _ unused_joint ne in
    let na : stage_at sa g b.stage ≡ n = stage_after s i j m g b.stage h₁ h₂ in
    let mb : stage_at sb j a.stage ≡ m = stage_after s k g n j a.stage h₃ h₄ in
    let bodies = both_swap s.bodies j.union_ g.union_ m.velocities n.velocities h₁ h₂ in
    let joints = set_comm s.joints i k m.joint n.joint ne in
    ap (step b) ea ∙ step_is b sa g n ga na
    ∙ ap₂ (with_bodies_and_joints s) bodies joints
    ∙ sym (ap (step a) eb ∙ step_is a sb j m jb mb)

-- ---- the test whether two slots share a dynamic body

or_true : (a b : Bool) → a || b ≡ true → (a ≡ true) ⊎ (b ≡ true)
or_true true b e = inl refl
or_true false b e = inr e

or_false : (a b : Bool) → a || b ≡ false → (a ≡ false) × (b ≡ false)
or_false true b e = absurd (true≢false e)
or_false false b e = (refl, e)

pub clash_yes : (bs : List BodyState) (x y : ℤ) → clash bs x y ≡ true
    → (n : ℕ) × (x ≡ pos n) × (y ≡ pos n) × (is_dynamic (get_or bs n identity_body_state) ≡ true)
clash_yes bs (pos m) (pos n) e =
    let h = (and-eq-true_iff (eqb m n) (is_dynamic (get_or bs m identity_body_state))).0 e in
    (m, refl, ap pos (sym (eqb-true m n h.0)), h.1)
clash_yes bs (pos m) (negsuc n) e = absurd (false≢true e)
clash_yes bs (negsuc m) y e = absurd (false≢true e)

yes_clash : (bs : List BodyState) (x y : ℤ) (n : ℕ) → x ≡ pos n → y ≡ pos n → is_dynamic (get_or bs n identity_body_state) ≡ true → clash bs x y ≡ true
yes_clash bs x y n p q e = rw (p, q, e, eq-eqb n n refl)

clash_either : (bs : List BodyState) (x y : ℤ) → clash bs x y ≡ false → clash bs y x ≡ false
clash_either bs x y h = by (clash bs y x) refl
  where
    by : (b : Bool) → clash bs y x ≡ b → b ≡ false
    by true e = let r = clash_yes bs y x e in sym (yes_clash bs x y r.0 r.2 r.1 r.3) ∙ h
    by false e = refl

-- an index clashes with one of a joint's; an index of one joint with one of the other's
abbrev hits : List BodyState → ℤ → JointUnion → Bool
hits bs x u = clash bs x (index_a u) || clash bs x (index_b u)

abbrev shares : Scene → ℕ → ℕ → Bool
shares s j k =
    hits s.bodies (index_a (joint_at s j).union_) (joint_at s k).union_ || hits s.bodies (index_b (joint_at s j).union_) (joint_at s k).union_

-- the order of two slots' calls counts
abbrev depends : Scene → ℕ → ℕ → Bool
depends s j k = eqb j k || shares s j k

hit : (s : Scene) (x : ℤ) (k : ℕ) → hits s.bodies x (joint_at s k).union_ ≡ true → (n : ℕ) × (x ≡ pos n) × Names s k n × Dynamic s n
hit s x k e =
    let u = (joint_at s k).union_ in
    ⊎_elim
    (λ h. let r = clash_yes s.bodies x (index_a u) h in (r.0, r.1, inl r.2, r.3))
    (λ h. let r = clash_yes s.bodies x (index_b u) h in (r.0, r.1, inr r.2, r.3))
    (or_true (clash s.bodies x (index_a u)) (clash s.bodies x (index_b u)) e)

shares_sound : (s : Scene) (j k : ℕ) → shares s j k ≡ true → ShareDynamic s j k
shares_sound s j k e =
    let u = (joint_at s j).union_ in
    let w = (joint_at s k).union_ in
    ⊎_elim
    (λ h. let r = hit s (index_a u) k h in (r.0, inl r.1, r.2, r.3))
    (λ h. let r = hit s (index_b u) k h in (r.0, inr r.1, r.2, r.3))
    (or_true (hits s.bodies (index_a u) w) (hits s.bodies (index_b u) w) e)

to_hit : (s : Scene) (x : ℤ) (k n : ℕ) → x ≡ pos n → Names s k n → Dynamic s n → hits s.bodies x (joint_at s k).union_ ≡ true
to_hit s x k n p (inl q) e = or_left _ _ (yes_clash s.bodies x _ n p q e)
to_hit s x k n p (inr q) e = or_right (clash s.bodies x (index_a (joint_at s k).union_)) _ (yes_clash s.bodies x _ n p q e)

shares_complete : (s : Scene) (j k n : ℕ) → Names s j n → Names s k n → Dynamic s n → shares s j k ≡ true
shares_complete s j k n (inl p) q e = or_left _ _ (to_hit s _ k n p q e)
shares_complete s j k n (inr p) q e = or_right (hits s.bodies (index_a (joint_at s j).union_) (joint_at s k).union_) _ (to_hit s _ k n p q e)

depends_either : (s : Scene) (j k : ℕ) → depends s j k ≡ true → depends s k j ≡ true
depends_either s j k e =
    ⊎_elim
    (λ h. or_left (eqb k j) (shares s k j) (eq-eqb k j (sym (eqb-true j k h))))
    (λ h. let r = shares_sound s j k h in or_right (eqb k j) (shares s k j) (shares_complete s k j r.0 r.2 r.1 r.3))
    (or_true (eqb j k) (shares s j k) e)

-- ---- calls of slots that do not depend on each other, in a scene that is as it was fed

module _ (s t : Scene) (f : Framed s t) where
  clash_kept : (x y x' y' : ℤ) → x ≡ x' → y ≡ y' → clash s.bodies x' y' ≡ false → clash t.bodies x y ≡ false
  clash_kept x y x' y' e g z = ap₂ (clash t.bodies) e g ∙ clash_at t.bodies s.bodies f.bodies x' y' ∙ z

  may_swap : (a b : Call) → depends s a.slot b.slot ≡ false → step b (step a t) ≡ step a (step b t)
  may_swap a b h =
      let i = a.slot in
      let k = b.slot in
      let u = (joint_at s i).union_ in
      let w = (joint_at s k).union_ in
      let o = or_false (eqb i k) (shares s i k) h in
      let p = or_false (hits s.bodies (index_a u) w) (hits s.bodies (index_b u) w) o.1 in
      let q = or_false (clash s.bodies (index_a u) (index_a w)) (clash s.bodies (index_a u) (index_b w)) p.0 in
      let r = or_false (clash s.bodies (index_b u) (index_a w)) (clash s.bodies (index_b u) (index_b w)) p.1 in
      let fi = fixed_at s t f i in
      let fk = fixed_at s t f k in
      let xa = index_a (joint_at t i).union_ in
      let xb = index_b (joint_at t i).union_ in
      let ya = index_a (joint_at t k).union_ in
      let yb = index_b (joint_at t k).union_ in
      let aa = clash_kept xa ya _ _ fi.index_a_lem fk.index_a_lem q.0 in
      let ab = clash_kept xa yb _ _ fi.index_a_lem fk.index_b_lem q.1 in
      let ba = clash_kept xb ya _ _ fi.index_b_lem fk.index_a_lem r.0 in
      let bb = clash_kept xb yb _ _ fi.index_b_lem fk.index_b_lem r.1 in
      let other = clash_either t.bodies in
      swap_calls a b t (eqb-false i k o.0) (aa, ba) (ab, bb) (other xa ya aa, other xa yb ab) (other xb ya ba, other xb yb bb)

laws : (s : Scene) → Steps step (λ c. c.slot) (depends s) (Framed s)
laws s =
    record {
      self = λ j. or_left (eqb j j) (shares s j j) (eq-eqb j j refl);
      either = depends_either s;
      keeps = λ c t f. framed_step s c t f;
      apart = λ a b t f h. may_swap s t f a b h;
    }

-- ---- the theorem on order

one_as_two : (j : ℕ) (l : List Call) → only_of_two j j l ≡ only_of j l
one_as_two j [] = refl
one_as_two j (c ∷ l) = ap₂ (λ b m. keep_if b c m) (or_self (eqb c.slot j)) (one_as_two j l)

pub end_alike : (s : Scene) (l₁ l₂ : List Call)
    → ((j : ℕ) → only_of j l₁ ≡ only_of j l₂)
    → ((j k : ℕ) → j ≢ k → ShareDynamic s j k → only_of_two j k l₁ ≡ only_of_two j k l₂)
    → run_all step l₁ s ≡ run_all step l₂ s
end_alike s l₁ l₂ one two = reorder step (λ c. c.slot) (depends s) (Framed s) (laws s) l₁ l₂ alike s (framed_start s)
  where
    at : (j k : ℕ) (b : Bool) → eqb j k ≡ b → b || shares s j k ≡ true → only_of_two j k l₁ ≡ only_of_two j k l₂
    at j k true e h = rw (sym (eqb-true j k e)) (one_as_two j l₁ ∙ one j ∙ sym (one_as_two j l₂))
    at j k false e h = two j k (eqb-false j k e) (shares_sound s j k h)

    alike : (j k : ℕ) → depends s j k ≡ true → only_of_two j k l₁ ≡ only_of_two j k l₂
    alike j k h = at j k (eqb j k) refl h

pub same_answer : (s : Scene) (l₁ l₂ : List ℕ) → Accepted s l₁ → Accepted s l₂
    → ((j : ℕ) → only_of j (calls l₁) ≡ only_of j (calls l₂))
    → ((j k : ℕ) → j ≢ k → ShareDynamic s j k → only_of_two j k (calls l₁) ≡ only_of_two j k (calls l₂))
    → plain_run s l₁ ≡ plain_run s l₂
unfolding plain_run
same_answer s l₁ l₂ a₁ a₂ one two = rw (a₁, a₂) (ap (done s) (end_alike s (calls l₁) (calls l₂) one two))
