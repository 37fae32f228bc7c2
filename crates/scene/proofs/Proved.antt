-- The claims of specs/Claims.antt, proved, each under its statement's name in small letters. Assumes nothing.
use mathlib.Core.Path.{◌≡◌, refl, sym, ap, ◌∙◌}
use mathlib.Core.Logic.{inl, inr, ⊎_elim, ◌≢◌, ◌↔◌}
use mathlib.Core.Bool.{Bool, true, false}
use mathlib.Core.List.{List, [], ◌∷◌, ◌++◌}
use Prim.Native.Nat.{ℕ, ◌+◌, ◌≤◌, ◌<◌}
use native.Mathlib.Omega.{arith}
use lib.Dec.{eqb}
use lib.ListN.{length, get_or}
use borrow.Author.Tests.{eqb-true, eqb-false}
use Rattle.solver.specs.declared.StepContext.{StepContext}
use Rattle.records.specs.declared.body.BodyState.{BodyState}
use Rattle.records.specs.declared.joint.JointUnion.{JointUnion}
use Rattle.records.specs.declared.joint.JointUnion.TheVariants.{Other}
use Rattle.records.specs.declared.joint.JointSim.{JointSim}
use Rattle.records.specs.Body.{identity_body_state}
use Rattle.joint.specs.Stage.{stage_joint}
use Rattle.scene.specs.declared.Scene.{Scene}
use Rattle.scene.specs.Scene.{joint_at, body_at}
use Rattle.scene.specs.Calls.{Call, calls, SolveListed}
use Rattle.scene.specs.Plain.{verdict, Accepted, run_calls, is_still, plain_run}
use Rattle.scene.specs.Claims.{Cause6, Cause7, call_tests, tests, Numbers, Acceptance, AcceptedIsZero, InRange, Range, Refusal, Midway}
use Rattle.scene.specs.Claims.{Chained, ChainedLists, both_velocities, Stillness, SameBits, StillKeepsBodies, NoBodies, EmptyList, Order, OrderCounted}
use Rattle.scene.specs.Claims.{Changes, ChangesMidway, OnlyChanges, record_settings, limits_of, LimitsNonNegative}
use Rattle.scene.specs.Claims.{LimitsAfterSolve, LimitsMidway, Limits, Differ, Agree}
use Rattle.scene.proofs.Accepted.{verdict_answers, answers_numbers, answers_none, OfTests, answers_hold}
use Rattle.scene.proofs.Accepted.{by_verdict, run_accepted, run_verdict, accepted_calls, no_cause_kept, no_cause_at}
use Rattle.scene.proofs.TwoLists.{runs_chained, one_after_other}
use Rattle.scene.proofs.Stages.{no_limits, stage_keeps, warm_keeps, solve_limits_lem}
use Rattle.scene.proofs.Settled.{settled}
use Rattle.scene.proofs.Framed.{unread, framed, fixed_at}
use Rattle.scene.proofs.Still.{same_patterns, same_below_lem, bodies_same}
use Rattle.scene.proofs.Examples as Examples
use Rattle.scene.proofs.Order.{same_answer}
use Rattle.scene.proofs.Counted.{same_answer_counted}
use Rattle.scene.proofs.Changes.{only_changes, nothing_changes}

-- ---- numbers and places

pub numbers : Numbers
numbers s l number place ne =
    let same = run_verdict s l in
    let given = answers_numbers (tests s l) (verdict s l) (verdict_answers s l) number place ne in
    (λ e. given.0 (sym same.0 ∙ e.0, sym same.1 ∙ e.1), λ h. let v = given.1 h in (same.0 ∙ v.0, same.1 ∙ v.1))

pub acceptance : Acceptance
acceptance s l =
    let same = run_verdict s l in
    let given = answers_none (tests s l) (verdict s l) (verdict_answers s l) in
    ((λ e. given.0 (sym same.0 ∙ e), λ h. same.0 ∙ given.1 h), λ e. same.1 ∙ ((verdict_answers s l).none (sym same.0 ∙ e)).1)

pub accepted_is_zero : AcceptedIsZero
accepted_is_zero s l = let same = (run_verdict s l).0 in (λ e. same ∙ e, λ e. sym same ∙ e)

-- a test that no call makes, and one that a call makes
early_range : (m n : ℕ) → 6 ≤ n → n ≤ 7 → InRange m n 0
early_range m n low high = record { number_bound = high; place_zero = λ h. refl; place_bound = λ ne h. absurd (omega (arith, low, h)) }

call_range : (m n p : ℕ) → 1 ≤ n → n ≤ 5 → p < m → InRange m n p
call_range m n p low high below =
    record {
      number_bound = omega (arith, high);
      place_zero = ⊎_elim (λ e. absurd (omega (arith, low, e))) (λ h. absurd (omega (arith, high, h)));
      place_bound = λ ne h. below;
    }

calls_range : (s : Scene) (p m : ℕ) (l : List Call) → p + length l ≡ m → OfTests (InRange m) (call_tests s p l)
calls_range s p m [] e = tt
calls_range s p m (c ∷ l) e =
    let below : p < m = omega (arith, e) in
    let at : (n : ℕ) → 1 ≤ n → n ≤ 5 → InRange m n p = λ n low high. call_range m n p low high below in (
      at 4 (omega arith) (omega arith),
      (
        at 5 (omega arith) (omega arith),
        (
          at 1 (omega arith) (omega arith),
          (
            at 2 (omega arith) (omega arith),
            (at 3 (omega arith) (omega arith), calls_range s (p + 1) m l (omega (arith, e))),
          ),
        ),
      ),
    )

pub range : Range
range s l =
    let same = run_verdict s l in
    let m = length (calls l) in
    let zeros : InRange m 0 0 = record { number_bound = omega arith; place_zero = λ h. refl; place_bound = λ ne h. absurd (ne refl) } in
    rw (same.0, same.1)
    (answers_hold (InRange m) (tests s l) (verdict s l) (verdict_answers s l) zeros
    (early_range m 6 (omega arith) (omega arith), (early_range m 7 (omega arith) (omega arith), calls_range s 0 m (calls l) (omega arith))))

pub refusal : Refusal
refusal s l = by_verdict s l (λ r. r.number ≢ 0 → (r.still ≡ false) × (r.scene ≡ s)) (λ e ne. absurd (ne refl)) (λ n ne. (refl, refl))

pub midway : Midway
midway s l e before c after same =
    no_cause_kept s (run_calls before s) (framed s before) (length before) c
    (no_cause_at s 0 (length before) (calls l) before c after same (accepted_calls s l e))

-- ---- two lists

pub chained : Chained
chained = runs_chained

pub chained_lists : ChainedLists
chained_lists = one_after_other

-- ---- still

still_is : (s : Scene) (l : List ℕ) → Accepted s l → (plain_run s l).still ≡ is_still s (plain_run s l).scene
still_is s l e = let r = run_accepted s l e in ap (λ x. x.still) r ∙ sym (ap (λ x. is_still s x.scene) r)

pub stillness : Stillness
unfolding is_still
stillness s l e =
    let r = still_is s l e in
    let given = same_below_lem s.body_count s.bodies (plain_run s l).scene.bodies in
    (λ h. given.0 (sym r ∙ h), λ h. r ∙ given.1 h)

pub same_bits : SameBits
same_bits = same_patterns

pub no_bodies : NoBodies
no_bodies s l e none = (stillness s l e).1 (λ n h. absurd (omega (arith, none, h)))

empty_7 : Cause7 [] → ⊥
empty_7 (inl e) = omega arith
empty_7 (inr h) = omega arith

empty_same : (s : Scene) → (plain_run s []).scene ≡ s
empty_same s = by_verdict s [] (λ r. r.scene ≡ s) (λ e. refl) (λ ne. refl)

pub empty_list : EmptyList
empty_list s = record { accepted = number; unaltered = empty_same s; still = still }
  where
    number : ((plain_run s []).number ≡ 0) ↔ ¬ (Cause6 s)
    number = (λ e. ((acceptance s []).0.0 e).0, λ h. (acceptance s []).0.1 (h, (empty_7, tt)))

    still : ¬ (Cause6 s) → (plain_run s []).still ≡ true
    still h = (stillness s [] (sym (run_verdict s []).0 ∙ number.1 h)).1 (λ n g. ap (λ t. both_velocities (body_at t n)) (empty_same s))

-- ---- order

pub order : Order
order = same_answer

pub order_counted : OrderCounted
order_counted = same_answer_counted

-- ---- what may change

pub changes_midway : ChangesMidway
changes_midway = only_changes

pub changes : Changes
changes s l = by_verdict s l (λ r. OnlyChanges s (calls l) r.scene) (λ e. only_changes s (calls l)) (λ ne. nothing_changes s (calls l))

-- since velocities alone change
pub still_keeps_bodies : StillKeepsBodies
still_keeps_bodies s l e = (
  λ h. bodies_same s (calls l) (plain_run s l).scene (accepted_calls s l e) (changes s l) ((stillness s l e).0 h),
  λ h. (stillness s l e).1 (λ n g. ap (λ bodies. both_velocities (get_or bodies n identity_body_state)) h),
)

-- ---- limits

-- the switches are settings
limits_from : (u v w : JointUnion) → record_settings u ≡ record_settings w → LimitsNonNegative u v → LimitsNonNegative w v
limits_from u v w e p =
    let limit = unread (λ x. (limits_of x).limit_on) (λ r. refl) (λ r. refl) (λ r. refl) u w e in
    let cone = unread (λ x. (limits_of x).cone_on) (λ r. refl) (λ r. refl) (λ r. refl) u w e in
    record { lower = λ on. p.lower (limit ∙ on); upper = λ on. p.upper (limit ∙ on); swing = λ on. p.swing (cone ∙ on) }

-- what each solve of a joint brings about
abbrev Settled : JointSim → Type 0
Settled j = j.base.fixed_rotation ≡ false → LimitsNonNegative j.union_ j.union_

module _ (j : JointSim) (context : StepContext) (a b : BodyState) (stage : ℕ) where
  abbrev next : JointSim
  next = (stage_joint j context a b stage).joint

  settles : stage ≢ 0 → Settled next
  settles ne free =
      let same = stage_keeps j context a b stage in
      limits_from j.union_ next.union_ next.union_ (sym (ap (λ x. x.union_) same))
      (solve_limits_lem j context a b stage ne (sym (ap (λ x. x.base.fixed_rotation) same) ∙ free))

  settled_stays : Settled j → Settled next
  settled_stays p = by (eqb stage 0) refl
    where
      by : (x : Bool) → eqb stage 0 ≡ x → Settled next
      by true e = rw (warm_keeps j context a b stage (eqb-true stage 0 e)) p
      by false e = settles (eqb-false stage 0 e)

pub limits_midway : LimitsMidway
limits_midway s before j solved free =
    let t = run_calls before s in
    let same = fixed_at s t (framed s before) j in
    limits_from (joint_at t j).union_ (joint_at t j).union_ (joint_at s j).union_ (ap (λ x. x.union_) same.settings)
    (settled Settled (λ f. no_limits Other Other refl refl) settles settled_stays before s j solved (ap (λ x. x.fixed_rotation) same.base ∙ free))

solved_last : (before : List Call) (c : Call) → c.stage ≢ 0 → SolveListed c.slot (before ++ (c ∷ []))
solved_last [] c ne = inl (refl, ne)
solved_last (d ∷ l) c ne = inr (solved_last l c ne)

pub limits_after_solve : LimitsAfterSolve
limits_after_solve s l accepted before c after same ne free = limits_midway s (before ++ (c ∷ [])) c.slot (solved_last before c ne) free

pub limits : Limits
limits s l accepted j solved free = rw (run_accepted s l accepted) (limits_midway s (calls l) j solved free)

-- ---- the examples

pub differ : Differ
differ = Examples.differ

pub agree : Agree
agree = Examples.agree
