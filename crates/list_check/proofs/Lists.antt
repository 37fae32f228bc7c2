-- Laws on the calls of a list, as a loop goes through its pairs of bytes, and on its tests. Assumes nothing.
use mathlib.Core.Path.{◌≡◌, refl, sym, ap, ◌∙◌}
use mathlib.Core.Logic.{◌≢◌}
use mathlib.Core.Bool.{Bool, true, false, cond, ◌||◌, false≢true}
use mathlib.Core.List.{List, [], ◌∷◌, map}
use Prim.Native.Nat.{ℕ, zero, suc, ◌+◌, ◌*◌, ◌/◌, ◌%◌, ◌≤◌, ◌<◌}
use native.Mathlib.Numerals.{add-one, add-two}
use native.Mathlib.Omega.{arith}
use lib.Dec.{eqb, ltb, leb}
use lib.ListN.{length, get_or, drop, length-drop, length-map, get_or-map}
use Rattle.std.proofs.lemmas.List.{get_or-take, get_or-drop, get_or_default, ext_get_or}
use lib.Seq.{drop-cons}
use borrow.Author.Tests.{eq-eqb, eqb-false, ne_eqb, ltb-false, leb-false}
use Rattle.std.specs.Simd.{first_chunks}
use Rattle.std.specs.Prelude.{Result, Ok, Err, ⊤}
use Rattle.std.specs.Result.{MatchResult, is_ok}
use Rattle.records.specs.declared.joint.JointSim.{JointSim}
use Rattle.records.specs.declared.refusal.Cause.{Cause}
use Rattle.records.specs.declared.refusal.Refusal.{Refusal}
use Rattle.records.specs.Refusal.{number_of, tested, refusal}
use Rattle.records.proofs.Causes.{caused}
use Rattle.scene.specs.declared.Scene.{Scene}
use Rattle.scene.specs.Plain.{Verdict}
use Rattle.records.specs.Joint.{unused_joint}
use Rattle.scene.specs.Calls.{call, calls}
use Rattle.scene.specs.Plain.{joint_cause, stage_cause, cause, verdict_of, first_cause, early_cause, verdict, verdict_answer}
use Rattle.list_check.specs.Causes.{joint_causes}

-- ---- the call at a byte

short_calls : (m : List ℕ) → length m ≤ 1 → calls m ≡ []
short_calls [] h = refl
short_calls (x ∷ []) h = refl
short_calls (x ∷ y ∷ m) h = absurd (omega arith)

module _ (l : List ℕ) (i : ℕ) where
  pub calls_here : i + 1 < length l → calls (drop i l) ≡ call (get_or l i 0) (get_or l (i + 1) 0) ∷ calls (drop (i + 2) l)
  calls_here h =
      let a : i < length l = omega arith in
      let b : suc i < length l = omega arith in
      rw (add-one i, add-two i, drop-cons l i 0 a, drop-cons l (suc i) 0 b)

  -- a last byte by itself is no call
  pub calls_end : length l ≤ i + 1 → calls (drop i l) ≡ []
  calls_end h = short_calls (drop i l) (rw (length-drop i l) (omega arith))

-- a byte of a pair
pair_byte : (m k j : ℕ) (l : List ℕ) → k < m → j < 2 → get_or (get_or (first_chunks 2 m l) k []) j 0 ≡ get_or l (2 * k + j) 0
pair_byte zero k j l h b = absurd (omega arith)
pair_byte (suc m) zero j l h b =
    let e : 2 * 0 + j ≡ j = omega arith in
    rw e (get_or-take 2 l j 0 b)
pair_byte (suc m) (suc k) j l h b =
    let e : 2 * suc k + j ≡ 2 + (2 * k + j) = omega arith in
    rw e (pair_byte m k j (drop 2 l) (omega arith) b ∙ get_or-drop 2 l (2 * k + j) 0)

-- the pairs that the loops go through, and the call in the pair `k`
module _ (l : List ℕ) (pairs : List (List ℕ)) (k : ℕ) (front : pairs ≡ first_chunks 2 (length l / 2) l) (many : length pairs ≡ length l / 2) where
  abbrev pub slot_at : ℕ
  slot_at = get_or (get_or pairs k []) 0 0

  abbrev pub stage_at : ℕ
  stage_at = get_or (get_or pairs k []) 1 0

  pub call_here : k < length pairs → calls (drop (2 * k) l) ≡ call slot_at stage_at ∷ calls (drop (2 * (k + 1)) l)
  call_here h =
      let m : k < length l / 2 = rw many at h in
      let slot : slot_at ≡ get_or l (2 * k + 0) 0 = rw front (pair_byte (length l / 2) k 0 l m (omega arith)) in
      let stage : stage_at ≡ get_or l (2 * k + 1) 0 = rw front (pair_byte (length l / 2) k 1 l m (omega arith)) in
      let start : 2 * k + 0 ≡ 2 * k = omega arith in
      let next : 2 * (k + 1) ≡ 2 * k + 2 = omega arith in
      rw (slot, stage, start, next) (calls_here l (2 * k) (omega arith))

  pub no_call_left : length pairs ≤ k → calls (drop (2 * k) l) ≡ []
  no_call_left h = calls_end l (2 * k) (omega arith)

-- ---- what is tested

-- a test of a call that finds none
pub tested_none : (r : Result ⊤ Cause) → is_ok r ≡ true → tested r ≡ 0
tested_none (Ok u) e = refl
tested_none (Err k) e = absurd (false≢true e)

-- and one that finds a cause, which is refused at the call's place
pub tested_cause : (r : Result ⊤ Cause) (e : Refusal) (place : ℕ)
    → MatchResult r (λ x. ◌≡◌ {A = Result ⊤ Refusal} (Err e) (Ok x)) (λ k. e ≡ refusal k place)
    → (tested r ≢ 0) × (verdict_answer (Err e) ≡ verdict_of (tested r) place)
tested_cause (Ok u) e place m = absurd (false≢true (ap is_ok m))
tested_cause (Err k) e place m = (caused k, ap (λ x. verdict_answer (Err x)) m)

-- ---- the tests before the calls

pub record NoEarly (body_count joint_count bytes : ℕ) : Type 0 where
  pub few_joints : joint_count ≤ 32
  pub even : bytes % 2 ≡ 0
  pub short : bytes ≤ 8192

no_early : (n m l : ℕ) → early_cause n m l ≡ 0 → NoEarly n m l
unfolding early_cause
no_early n m l e = by (ltb 32 n) (ltb 32 m) (eqb (l % 2) 1) (ltb 8192 l) refl refl refl e
  where
    by : (a b c d : Bool) → ltb 32 m ≡ b → eqb (l % 2) 1 ≡ c → ltb 8192 l ≡ d → ◌≡◌ {A = ℕ} (cond (a || b) 6 (cond (c || d) 7 0)) 0 → NoEarly n m l
    by true b c d q r t e = absurd (omega arith)
    by false true c d q r t e = absurd (omega arith)
    by false false true d q r t e = absurd (omega arith)
    by false false false true q r t e = absurd (omega arith)
    by false false false false q r t e = record { few_joints = ltb-false 32 m q; even = omega (arith, eqb-false (l % 2) 1 r); short = ltb-false 8192 l t }

module _ (s : Scene) (l : List ℕ) where
  abbrev early : ℕ
  early = early_cause s.body_count s.joint_count (length l)

  pub early_none : 0 ≡ early → NoEarly s.body_count s.joint_count (length l)
  early_none o = no_early s.body_count s.joint_count (length l) (sym o)

  pub verdict_early : (k : Cause) → number_of k ≡ early → verdict_of (number_of k) 0 ≡ verdict s l
  unfolding verdict
  verdict_early k is = rw (← is, ne_eqb (number_of k) 0 (caused k))

  pub verdict_late : 0 ≡ early → first_cause s 0 (calls l) ≡ verdict s l
  unfolding verdict
  verdict_late o = rw (sym o)

-- ---- the check's loop

module _ (l : List ℕ) (pairs : List (List ℕ)) (k : ℕ) (front : pairs ≡ first_chunks 2 (length l / 2) l) (many : length pairs ≡ length l / 2)
    (s : Scene) (z : Verdict) (q : first_cause s k (calls (drop (2 * k) l)) ≡ z) where
  abbrev here : ℕ
  here = cause s (call (slot_at l pairs k front many) (stage_at l pairs k front many))

  pub check_more : (c : ℕ) → k < length pairs → c ≡ here → c ≡ 0 → first_cause s (k + 1) (calls (drop (2 * (k + 1)) l)) ≡ z
  check_more c h e o = rw (eq-eqb here 0 (sym e ∙ o)) at (rw (call_here l pairs k front many h) at q)

  pub check_stop : (c : ℕ) → k < length pairs → c ≡ here → c ≢ 0 → verdict_of c k ≡ z
  check_stop c h e o = rw e (rw (ne_eqb here 0 (λ x. o (e ∙ x))) at (rw (call_here l pairs k front many h) at q))

  pub check_end : length pairs ≤ k → verdict_of 0 0 ≡ z
  check_end h = rw (no_call_left l pairs k front many h) at q

-- a call's cause, where its slot is past the last joint, and where it holds a joint, from the table of the joints' causes
pub slot_cause_is : (s : Scene) (slot stage : ℕ) (b : Bool) → b ≡ leb s.joint_count slot → b ≡ true → 4 ≡ cause s (call slot stage)
unfolding cause
slot_cause_is s slot stage b e t = rw (sym e ∙ t)

pub within : (count slot : ℕ) (b : Bool) → b ≡ leb count slot → b ≡ false → slot < count
within count slot b e f = leb-false count slot (sym e ∙ f)

pub stage_cause_is : (s : Scene) (checked : List (Result ⊤ Cause)) (slot stage : ℕ) (d : Result ⊤ Cause) (c : ℕ) (b : Bool) → length s.joints ≡ 32
    → s.joint_count ≤ 32
    → map tested checked ≡ joint_causes s
    → b ≡ leb s.joint_count slot
    → b ≡ false
    → c ≡ stage_cause (tested (get_or checked slot d)) stage
    → c ≡ cause s (call slot stage)
unfolding cause joint_causes
stage_cause_is s checked slot stage d c b long low table e f is =
    let of : JointSim → ℕ = λ joint. joint_cause s.body_count joint.union_ in
    let wide : slot < length (map of s.joints) = rw (length-map s.joints of, long) (omega (arith, within s.joint_count slot b e f, low)) in
    let same : tested (get_or checked slot d) ≡ of (get_or s.joints slot unused_joint) =
    sym (get_or-map tested checked slot d)
    ∙ rw table (get_or_default (map of s.joints) slot (tested d) (of unused_joint) wide ∙ get_or-map of s.joints slot unused_joint) in
    is ∙ rw (sym e ∙ f) (ap (λ x. stage_cause x stage) same)

-- the table of causes, by its elements
pub causes_all : (s : Scene) (l : List (Result ⊤ Cause)) (d : JointSim) → length s.joints ≡ 32 → length l ≡ 32
    → ((k : ℕ) (e : Result ⊤ Cause) → k < 32 → tested (get_or l k e) ≡ joint_cause s.body_count (get_or s.joints k d).union_)
    → map tested l ≡ joint_causes s
unfolding joint_causes
causes_all s l d long m each =
    let of : JointSim → ℕ = λ joint. joint_cause s.body_count joint.union_ in
    ext_get_or 0 (map tested l) (map of s.joints) (length-map l tested ∙ m ∙ sym (length-map s.joints of ∙ long))
    (λ k h. one k (rw (length-map l tested, m) at h))
  where
    one : (k : ℕ) → k < 32 → get_or (map tested l) k 0 ≡ get_or (map (λ joint. joint_cause s.body_count joint.union_) s.joints) k 0
    one k h =
        let of : JointSim → ℕ = λ joint. joint_cause s.body_count joint.union_ in
        let wide : k < length (map of s.joints) = rw (length-map s.joints of, long) h in
        get_or-map tested l k (Ok tt) ∙ each k (Ok tt) h ∙ sym (get_or-map of s.joints k d) ∙ get_or_default (map of s.joints) k (of d) 0 wide
