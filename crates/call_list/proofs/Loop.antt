-- The run's loop, as it goes through the bytes of a list: the calls before `k` are worked. Assumes nothing.
use mathlib.Core.Path.{◌≡◌, ap, ◌∙◌}
use mathlib.Core.List.{List, [], ◌∷◌}
use Prim.Native.Nat.{ℕ, ◌+◌, ◌*◌, ◌/◌, ◌≤◌, ◌<◌}
use lib.ListN.{length, take, drop}
use Rattle.std.specs.Simd.{first_chunks}
use lib.Seq.{take_at}
use Rattle.records.specs.declared.body.BodyState.{BodyState}
use Rattle.records.specs.declared.joint.JointSim.{JointSim}
use Rattle.records.specs.Body.{identity_body_state}
use Rattle.scene.specs.declared.Scene.{Scene}
use Rattle.scene.specs.Scene.{with_bodies_and_joints}
use Rattle.scene.specs.Calls.{calls}
use Rattle.scene.specs.Plain.{run_calls}
use Rattle.list_check.proofs.Lists.{slot_at, stage_at, call_here, no_call_left}
use Rattle.call_list.specs.Positions.{with_identity}
use Rattle.call_list.proofs.OneCall.{CallWorked}

-- after the first `k` calls: `js`, and `bs`, which is `bodies` with the identity state after them, are those of the scene
pub record LoopInvariant (s : Scene) (l : List ℕ) (js : List JointSim) (bs : List BodyState) (k : ℕ) : Type 0 where
  pub bodies : List BodyState
  pub holds : bs ≡ with_identity bodies
  pub long_bodies : length bodies ≡ 32
  pub long_joints : length js ≡ 32
  pub made : run_calls (calls (drop (2 * k) l)) (with_bodies_and_joints s bodies js) ≡ run_calls (calls l) s

module _ (s : Scene) (l : List ℕ) (pairs : List (List ℕ)) (js : List JointSim) (bs : List BodyState) (k : ℕ) (w : LoopInvariant s l js bs k)
    (front : pairs ≡ first_chunks 2 (length l / 2) l) (many : length pairs ≡ length l / 2) where
  pub invariant_more : (ws : List BodyState) (next : List JointSim) → k < length pairs
      → CallWorked s js w.bodies ws (slot_at l pairs k front many) (stage_at l pairs k front many) next
      → LoopInvariant s l next ws (k + 1)
  invariant_more ws next h t =
      record {
        bodies = t.bodies;
        holds = t.holds;
        long_bodies = t.long_bodies;
        long_joints = t.long_joints;
        made = ap (run_calls (calls (drop (2 * (k + 1)) l))) t.stepped ∙ (rw (call_here l pairs k front many h) at w.made);
      }

  pub invariant_done : length pairs ≤ k → with_bodies_and_joints s (take 32 bs) js ≡ run_calls (calls l) s
  unfolding with_identity
  invariant_done h =
      let same : take 32 bs ≡ w.bodies = rw w.holds (take_at w.bodies (identity_body_state ∷ []) 32 w.long_bodies) in
      ap (λ x. with_bodies_and_joints s x js) same ∙ (rw (no_call_left l pairs k front many h) at w.made)
