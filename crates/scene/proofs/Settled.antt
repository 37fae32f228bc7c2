-- What each solve of a joint brings about, and each call of it keeps, holds at the end of every list that solves the joint. Assumes nothing.
use mathlib.Core.Path.{◌≡◌, refl, sym, ap, ◌∙◌, subst}
use mathlib.Core.Logic.{inl, inr, ◌≢◌}
use mathlib.Core.Bool.{Bool, true, false}
use mathlib.Core.List.{List, [], ◌∷◌}
use Prim.Native.Nat.{ℕ, ◌≤◌, ◌<◌}
use lib.Dec.{eqb, leb}
use lib.ListN.{length, get_or, get_or-eq_default}
use lib.Seq.{get_or-set_same, set_out}
use borrow.Author.Tests.{eqb-true, eqb-false, leb-true, leb-false}
use Rattle.solver.specs.declared.StepContext.{StepContext}
use Rattle.records.specs.declared.body.BodyState.{BodyState}
use Rattle.records.specs.declared.joint.JointSim.{JointSim}
use Rattle.records.specs.Joint.{unused_joint}
use Rattle.joint.specs.Stage.{stage_joint}
use Rattle.scene.specs.declared.Scene.{Scene}
use Rattle.scene.specs.Scene.{joint_at}
use Rattle.scene.specs.Calls.{Call, SolveListed}
use Rattle.scene.specs.Plain.{stage_at, step, run_all}
use Rattle.scene.proofs.Changes.{call_keeps_joint}

call_here : (c : Call) (s : Scene) → c.slot < length s.joints
    → joint_at (step c s) c.slot ≡ (stage_at s (joint_at s c.slot) c.stage).joint
unfolding step
call_here c s h = get_or-set_same s.joints c.slot _ unused_joint h

call_past : (c : Call) (s : Scene) → length s.joints ≤ c.slot → joint_at (step c s) c.slot ≡ unused_joint
unfolding step
call_past c s h = ap (λ l. get_or l c.slot unused_joint) (set_out s.joints c.slot _ h) ∙ get_or-eq_default s.joints unused_joint {n = c.slot} h

-- `P` holds past the end, a solve brings it about, and every stage keeps it
module _ (P : JointSim → Type 0) (past : P unused_joint)
    (brings : (j : JointSim) (context : StepContext) (a b : BodyState) (stage : ℕ) → stage ≢ 0 → P (stage_joint j context a b stage).joint)
    (keeps : (j : JointSim) (context : StepContext) (a b : BodyState) (stage : ℕ) → P j → P (stage_joint j context a b stage).joint) where
  at_slot : (c : Call) (s : Scene) → P (stage_at s (joint_at s c.slot) c.stage).joint → P (joint_at (step c s) c.slot)
  at_slot c s p = by (leb (length s.joints) c.slot) refl
    where
      by : (b : Bool) → leb (length s.joints) c.slot ≡ b → P (joint_at (step c s) c.slot)
      by true e = rw (call_past c s (leb-true (length s.joints) c.slot e)) past
      by false e = rw (call_here c s (leb-false (length s.joints) c.slot e)) p

  after_call : (c : Call) (s : Scene) (j : ℕ) → P (joint_at s j) → P (joint_at (step c s) j)
  after_call c s j p = by (eqb c.slot j) refl
    where
      by : (b : Bool) → eqb c.slot j ≡ b → P (joint_at (step c s) j)
      by true e =
          let q : c.slot ≡ j = eqb-true c.slot j e in
          subst (λ i. P (joint_at (step c s) i)) q (at_slot c s (keeps _ _ _ _ c.stage (subst (λ i. P (joint_at s i)) (sym q) p)))
      by false e = rw (call_keeps_joint j c s (eqb-false c.slot j e)) p

  stays : (l : List Call) (s : Scene) (j : ℕ) → P (joint_at s j) → P (joint_at (run_all step l s) j)
  stays [] s j p = p
  stays (c ∷ l) s j p = stays l (step c s) j (after_call c s j p)

  pub settled : (l : List Call) (s : Scene) (j : ℕ) → SolveListed j l → P (joint_at (run_all step l s) j)
  settled [] s j e = absurd e
  settled (c ∷ l) s j (inl e) = stays l (step c s) j (subst (λ i. P (joint_at (step c s) i)) e.0 (at_slot c s (brings _ _ _ _ c.stage e.1)))
  settled (c ∷ l) s j (inr e) = settled l (step c s) j e
