-- Document 01's plain run: what a run of a call list on a scene answers, from the scene at the start and the list's bytes; still is C-20's. Definitions only.
-- Assumes nothing.
use Rattle.std.specs.Prelude.{◌≡◌, Bool, true, false, cond, ◌&&◌, ◌||◌, List, [], ◌∷◌, ℕ, zero, suc, ◌+◌, ◌%◌, eqb, ltb, leb}
use Rattle.std.specs.Prelude.{Float, ℤ, pos, negsuc, length, get_or, set, Result, Ok, Err, ⊤}
use Rattle.std.specs.Bool.{beq}
use Rattle.std.specs.Float.{nan, inf, fin}
use Rattle.std.specs.Float.Ieee.{is_nan}
use Rattle.math_functions.specs.declared.types.Vec3.{Vec3}
use Rattle.records.specs.declared.body.BodyState.{BodyState}
use Rattle.records.specs.declared.joint.JointSim.{JointSim}
use Rattle.records.specs.declared.joint.JointUnion.{JointUnion}
use Rattle.records.specs.Body.{identity_body_state}
use Rattle.records.specs.declared.refusal.Refusal.{Refusal}
use Rattle.records.specs.Refusal.{number_of}
use Rattle.constraint.specs.declared.velocity.Velocities.{Velocities}
use Rattle.records.specs.Joint.{is_other}
use Rattle.joint.specs.Stage.{Staged, stage_joint}
use Rattle.scene.specs.declared.Scene.{Scene}
use Rattle.scene.specs.declared.Run.{Run}
use Rattle.joint.specs.Index.{index_a, index_b, index_cause}
use Rattle.scene.specs.Scene.{with_bodies_and_joints, joint_at, state_at, store}
use Rattle.scene.specs.Calls.{Call, calls}

-- ---- a run's tests

-- the tests 1, 2, 3, which only the call's joint decides. A call has no kind of its own, so that of 1 only 'not one of the three' is left
abbrev pub joint_cause : ℕ → JointUnion → ℕ
joint_cause body_count union = cond (is_other union) 1 (index_cause body_count union)

-- the tests 5, 1, 2, 3, which are left for a call whose slot holds a joint, where `of_joint` is the first of 1, 2, 3 that holds, or 0
abbrev pub stage_cause : ℕ → ℕ → ℕ
stage_cause of_joint stage = cond (ltb 2 stage) 5 of_joint

-- within a call the tests 4, 5, 1, 2, 3: the first cause that holds, or 0
abbrev pub call_cause : ℕ → ℕ → Call → ℕ
call_cause joint_count of_joint c = cond (leb joint_count c.slot) 4 (stage_cause of_joint c.stage)

abbrev pub cause_in : ℕ → ℕ → JointUnion → Call → ℕ
cause_in body_count joint_count union c = call_cause joint_count (joint_cause body_count union) c

unfoldable pub cause : Scene → Call → ℕ
cause s c = cause_in s.body_count s.joint_count (joint_at s c.slot).union_ c

-- the first cause of a refusal and its place, or 0 and 0
pub record Verdict : Type 0 where
  pub number : ℕ
  pub place : ℕ

abbrev pub verdict_of : ℕ → ℕ → Verdict
verdict_of number place = record { number = number; place = place }

-- 'the calls from the first on', where the first is at `place`: 'place is the call's position, counted from 0'
abbrev pub first_cause : Scene → ℕ → List Call → Verdict
first_cause s place [] = verdict_of 0 0
first_cause s place (c ∷ l) = cond (eqb (cause s c) 0) (first_cause s (place + 1) l) (verdict_of (cause s c) place)

-- 'a run tests 6, 7, then the calls': the numbers of the two tests before the calls, or 0
unfoldable pub early_cause : ℕ → ℕ → ℕ → ℕ
early_cause body_count joint_count bytes =
    cond (ltb 32 body_count || ltb 32 joint_count) 6 (cond (eqb (bytes % 2) 1 || ltb 8192 bytes) 7 0)

unfoldable pub verdict : Scene → List ℕ → Verdict
verdict s l =
    let early = early_cause s.body_count s.joint_count (length l) in
    cond (eqb early 0) (first_cause s 0 (calls l)) (verdict_of early 0)

-- a list is accepted where no cause holds
abbrev pub Accepted : Scene → List ℕ → Type 0
Accepted s l = (verdict s l).number ≡ 0

-- ---- a call

-- 'demand 2's definition of that kind's stage, with the scene's step context', on the states at the joint's two indices
abbrev pub stage_at : Scene → JointSim → ℕ → Staged
stage_at s joint stage =
    let union = joint.union_ in
    stage_joint joint s.context (state_at s.bodies (index_a union)) (state_at s.bodies (index_b union)) stage

-- 'stores A, then B, each only if dynamic'
abbrev pub store_both : List BodyState → JointUnion → Velocities → List BodyState
store_both bodies union v = store (store bodies (index_a union) v.v_a v.w_a) (index_b union) v.v_b v.w_b

-- 'puts the new joint into the slot': what the stage of `joint`, which was in the slot, left
abbrev pub placed : Scene → ℕ → JointSim → Staged → Scene
placed s slot joint r = with_bodies_and_joints s (store_both s.bodies joint.union_ r.velocities) (set s.joints slot r.joint)

-- one call: 'it takes the joint in the slot, reads the states at its two indices, and applies the stage'; both states are read first
unfoldable pub step : Call → Scene → Scene
step c s =
    let joint = joint_at s c.slot in
    placed s c.slot joint (stage_at s joint c.stage)

module _ {C S : Type 0} where
  -- the calls in order, each on what the one before it left
  abbrev pub run_all : (C → S → S) → List C → S → S
  run_all step [] s = s
  run_all step (a ∷ l) s = run_all step l (step a s)

-- 'goes through the calls in order'
abbrev pub run_calls : List Call → Scene → Scene
run_calls l s = run_all step l s

-- ---- still

abbrev pub same_exponent : ℤ → ℤ → Bool
same_exponent (pos m) (pos n) = eqb m n
same_exponent (pos m) (negsuc n) = false
same_exponent (negsuc m) (pos n) = false
same_exponent (negsuc m) (negsuc n) = eqb m n

-- C-20: "still" 'compares bits, with all NaNs equal to one another': whether x and y have the same bits or are both NaN. `Float` has one NaN, a zero of each
-- sign, and each other f32 once, so this is whether x ≡ y (`SameBits`, `Stillness` in Claims.antt)
unfoldable pub same_float : Float → Float → Bool
same_float nan y = is_nan y
same_float (inf s) nan = false
same_float (inf s) (inf t) = beq s t
same_float (inf s) (fin t n d) = false
same_float (fin s m e) nan = false
same_float (fin s m e) (inf t) = false
same_float (fin s m e) (fin t n d) = beq s t && eqb m n && same_exponent e d

abbrev pub same_vector : Vec3 → Vec3 → Bool
same_vector v w = same_float v.x w.x && same_float v.y w.y && same_float v.z w.z

unfoldable pub same_velocities : BodyState → BodyState → Bool
same_velocities a b = same_vector a.linear_velocity b.linear_velocity && same_vector a.angular_velocity b.angular_velocity

-- the bodies below a number
abbrev pub same_below : ℕ → List BodyState → List BodyState → Bool
same_below zero before after = true
same_below (suc n) before after =
    same_below n before after && same_velocities (get_or before n identity_body_state) (get_or after n identity_body_state)

-- 'still': every velocity component of the counted bodies has the same bits before and after, or is NaN both times
unfoldable pub is_still : Scene → Scene → Bool
is_still before after = same_below before.body_count before.bodies after.bodies

-- ---- the run

-- 'a run returns a number, a place, the scene, and a yes or no "still"'
pub record RunAnswer : Type 0 where
  pub number : ℕ
  pub place : ℕ
  pub still : Bool
  pub scene : Scene

-- 'number 0, place 0, still as defined, and the scene'
abbrev pub done : Scene → Scene → RunAnswer
done before after = record { number = 0; place = 0; still = is_still before after; scene = after }

-- 'the first one's number and place, still no, and the scene as fed'
abbrev pub refused : Verdict → Scene → RunAnswer
refused v s = record { number = v.number; place = v.place; still = false; scene = s }

unfoldable pub plain_run : Scene → List ℕ → RunAnswer
plain_run s l = cond (eqb (verdict s l).number 0) (done s (run_calls (calls l) s)) (refused (verdict s l) s)

-- ---- what the code returns, in those terms: 'when an answer is an enum, a definition gives this paper's number and values for each case of that enum'

abbrev pub verdict_answer : Result ⊤ Refusal → Verdict
verdict_answer (Ok u) = verdict_of 0 0
verdict_answer (Err r) = verdict_of (number_of r.cause) r.place

-- of a run of a list on this scene
abbrev pub run_answer : Scene → Result Run Refusal → RunAnswer
run_answer s (Ok r) = record { number = 0; place = 0; still = r.still; scene = r.scene }
run_answer s (Err r) = refused (verdict_answer (Err r)) s
