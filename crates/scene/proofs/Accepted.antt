-- What a verdict says: the number and the place of the first cause that holds, in the order of a run's tests. Assumes nothing.
use mathlib.Core.Path.{◌≡◌, refl, sym, ap, ◌∙◌}
use mathlib.Core.Logic.{◌⊎◌, inl, inr, ⊎_elim, ◌≢◌, ◌↔◌}
use mathlib.Core.Bool.{Bool, true, false, cond, ◌||◌}
use mathlib.Core.List.{List, [], ◌∷◌, ◌++◌}
use Prim.Native.Nat.{ℕ, zero, suc, ◌+◌, ◌%◌, ◌≤◌, ◌<◌}
use native.Mathlib.Omega.{arith}
use lib.Dec.{eqb, ltb, leb}
use lib.IntN.{ℤ, pos, negsuc}
use lib.ListN.{length}
use borrow.Author.Tests.{eqb-true, eqb-false, leb-true, leb-false, ltb-true, ltb-false}
use Rattle.records.specs.declared.joint.JointUnion.{JointUnion}
use Rattle.records.specs.declared.joint.JointUnion.TheVariants.{Revolute, Spherical, Weld, Other}
use Rattle.scene.specs.declared.Scene.{Scene}
use Rattle.scene.specs.Plain.{Verdict}
use Rattle.scene.specs.Plain.{RunAnswer}
use Rattle.joint.specs.Index.{index_a, index_b, bad_index}
use Rattle.records.specs.Joint.{case_of, is_other}
use Rattle.scene.specs.Scene.{joint_at}
use Rattle.scene.specs.Calls.{Call, calls, Every}
use Rattle.scene.specs.Plain.{cause, verdict_of, first_cause, early_cause, verdict, Accepted, done, refused, run_calls, plain_run}
use Rattle.scene.proofs.Framed.{Framed, cause_kept}
use Rattle.scene.specs.Claims.{Cause6, Cause7, OutOf, Test, test, call_tests, tests, NoCause, FirstCause}

-- ---- each test decides its cause

-- `b` says whether `P` holds
abbrev pub Says : Bool → Type 0 → Type 0
Says true P = P
Says false P = ¬ P

pub says_or : (a b : Bool) (P Q : Type 0) → Says a P → Says b Q → Says (a || b) (P ⊎ Q)
says_or true b P Q p q = inl p
says_or false true P Q p q = inr q
says_or false false P Q p q = ⊎_elim p q

pub says_of : (b : Bool) {P : Type 0} → (b ≡ true → P) → (b ≡ false → ¬ P) → Says b P
says_of true holds fails = holds refl
says_of false holds fails = fails refl

says_lt : (m n : ℕ) → Says (ltb m n) (m < n)
says_lt m n = says_of (ltb m n) (ltb-true m n) (λ e h. omega (arith, ltb-false m n e))

says_le : (m n : ℕ) → Says (leb m n) (m ≤ n)
says_le m n = says_of (leb m n) (leb-true m n) (λ e h. omega (arith, leb-false m n e))

says_eq : (m n : ℕ) → Says (eqb m n) (m ≡ n)
says_eq m n = says_of (eqb m n) (eqb-true m n) (eqb-false m n)

other_not : {u : JointUnion} → case_of u ≢ 3 → u ≢ Other
other_not ne e = ne (ap case_of e)

pub says_other : (u : JointUnion) → Says (is_other u) (u ≡ Other)
says_other (Revolute r) = other_not (λ e. omega arith)
says_other (Spherical r) = other_not (λ e. omega arith)
says_other (Weld r) = other_not (λ e. omega arith)
says_other Other = refl

pub says_index : (count : ℕ) (z : ℤ) → Says (bad_index count z) (OutOf count z)
says_index count (pos n) = says_le count n
says_index count (negsuc zero) = λ h. h refl
says_index count (negsuc (suc n)) = λ e. omega arith

says_6 : (s : Scene) → Says (ltb 32 s.body_count || ltb 32 s.joint_count) (Cause6 s)
says_6 s =
    says_or (ltb 32 s.body_count) (ltb 32 s.joint_count) (32 < s.body_count) (32 < s.joint_count)
    (says_lt 32 s.body_count) (says_lt 32 s.joint_count)

says_7 : (l : List ℕ) → Says (eqb (length l % 2) 1 || ltb 8192 (length l)) (Cause7 l)
says_7 l =
    says_or (eqb (length l % 2) 1) (ltb 8192 (length l)) (length l % 2 ≡ 1) (8192 < length l) (says_eq (length l % 2) 1) (says_lt 8192 (length l))

-- ---- the answer of a list of tests, made one after the other

-- `v` answers the tests: the first cause that holds, or 0 and 0
pub record Answers (ts : List Test) (v : Verdict) : Type 0 where
  pub found : v.number ≢ 0 → FirstCause ts v.number v.place
  pub none : v.number ≡ 0 → NoCause ts × (v.place ≡ 0)

pub answers_nil : Answers [] (verdict_of 0 0)
answers_nil = record { found = λ h. h refl; none = λ e. (tt, refl) }

-- a test before others, none of whose numbers is 0
pub answers_test : (b : Bool) {P : Type 0} (number place : ℕ) (ts : List Test) (v : Verdict) → number ≢ 0 → Says b P → Answers ts v
    → Answers (test number place P ∷ ts) (cond b (verdict_of number place) v)
answers_test true number place ts v ne p a = record { found = λ h. inl (p, refl, refl); none = λ e. absurd (ne e) }
answers_test false number place ts v ne p a = record { found = λ h. inr (p, a.found h); none = λ e. ((p, (a.none e).0), (a.none e).1) }

-- ---- of a call

five : (b₁ b₂ b₃ b₄ b₅ : Bool) (place : ℕ) (v : Verdict)
    → let number : ℕ = cond b₁ 4 (cond b₂ 5 (cond b₃ 1 (cond b₄ 2 (cond b₅ 3 0)))) in
    cond b₁ (verdict_of 4 place) (cond b₂ (verdict_of 5 place) (cond b₃ (verdict_of 1 place) (cond b₄ (verdict_of 2 place) (cond b₅ (verdict_of 3 place) v))))
    ≡ cond (eqb number 0) v (verdict_of number place)
five true b₂ b₃ b₄ b₅ place v = refl
five false true b₃ b₄ b₅ place v = refl
five false false true b₄ b₅ place v = refl
five false false false true b₅ place v = refl
five false false false false true place v = refl
five false false false false false place v = refl

call_answers : (s : Scene) (place : ℕ) (c : Call) (l : List Call) (v : Verdict) → Answers (call_tests s (place + 1) l) v
    → Answers (call_tests s place (c ∷ l)) (cond (eqb (cause s c) 0) v (verdict_of (cause s c) place))
unfolding cause
call_answers s place c l v a =
    let u = (joint_at s c.slot).union_ in
    let b₁ = leb s.joint_count c.slot in
    let b₂ = ltb 2 c.stage in
    let b₃ = is_other u in
    let b₄ = bad_index s.body_count (index_a u) in
    let b₅ = bad_index s.body_count (index_b u) in
    rw (sym (five b₁ b₂ b₃ b₄ b₅ place v))
    (answers_test b₁ 4 place _ _ (λ e. omega arith) (says_le s.joint_count c.slot)
    (answers_test b₂ 5 place _ _ (λ e. omega arith) (says_lt 2 c.stage)
    (answers_test b₃ 1 place _ _ (λ e. omega arith) (says_other u)
    (answers_test b₄ 2 place _ _ (λ e. omega arith) (says_index s.body_count (index_a u))
    (answers_test b₅ 3 place _ _ (λ e. omega arith) (says_index s.body_count (index_b u)) a)))))

first_answers : (s : Scene) (place : ℕ) (l : List Call) → Answers (call_tests s place l) (first_cause s place l)
first_answers s place [] = answers_nil
first_answers s place (c ∷ l) = call_answers s place c l (first_cause s (place + 1) l) (first_answers s (place + 1) l)

early : (b₁ b₂ : Bool) (v : Verdict)
    → let number : ℕ = cond b₁ 6 (cond b₂ 7 0) in
    cond b₁ (verdict_of 6 0) (cond b₂ (verdict_of 7 0) v) ≡ cond (eqb number 0) v (verdict_of number 0)
early true b₂ v = refl
early false true v = refl
early false false v = refl

pub verdict_answers : (s : Scene) (l : List ℕ) → Answers (tests s l) (verdict s l)
unfolding verdict early_cause
verdict_answers s l =
    let b₁ = ltb 32 s.body_count || ltb 32 s.joint_count in
    let b₂ = eqb (length l % 2) 1 || ltb 8192 (length l) in
    rw (sym (early b₁ b₂ (first_cause s 0 (calls l))))
    (answers_test b₁ 6 0 _ _ (λ e. omega arith) (says_6 s)
    (answers_test b₂ 7 0 _ _ (λ e. omega arith) (says_7 l) (first_answers s 0 (calls l))))

-- ---- a list of tests has at most one first cause

first_once : (ts : List Test) (n p n' p' : ℕ) → FirstCause ts n p → FirstCause ts n' p' → (n ≡ n') × (p ≡ p')
first_once [] n p n' p' a b = absurd a
first_once (t ∷ ts) n p n' p' (inl a) (inl b) = (a.1 ∙ sym b.1, a.2 ∙ sym b.2)
first_once (t ∷ ts) n p n' p' (inl a) (inr b) = absurd (b.0 a.0)
first_once (t ∷ ts) n p n' p' (inr a) (inl b) = absurd (a.0 b.0)
first_once (t ∷ ts) n p n' p' (inr a) (inr b) = first_once ts n p n' p' a.1 b.1

none_first : (ts : List Test) (n p : ℕ) → NoCause ts → FirstCause ts n p → ⊥
none_first [] n p a b = b
none_first (t ∷ ts) n p a (inl b) = a.0 b.0
none_first (t ∷ ts) n p a (inr b) = none_first ts n p a.1 b.1

pub answers_numbers : (ts : List Test) (v : Verdict) → Answers ts v → (n p : ℕ) → n ≢ 0 → ((v.number ≡ n) × (v.place ≡ p)) ↔ FirstCause ts n p
answers_numbers ts v a n p ne = (to, from)
  where
    to : (v.number ≡ n) × (v.place ≡ p) → FirstCause ts n p
    to e = rw (sym e.0, sym e.1) (a.found (λ z. ne (sym e.0 ∙ z)))

    by : (b : Bool) → eqb v.number 0 ≡ b → FirstCause ts n p → (v.number ≡ n) × (v.place ≡ p)
    by true e f = absurd (none_first ts n p (a.none (eqb-true v.number 0 e)).0 f)
    by false e f = first_once ts v.number v.place n p (a.found (eqb-false v.number 0 e)) f

    from : FirstCause ts n p → (v.number ≡ n) × (v.place ≡ p)
    from f = by (eqb v.number 0) refl f

pub answers_none : (ts : List Test) (v : Verdict) → Answers ts v → (v.number ≡ 0) ↔ NoCause ts
answers_none ts v a = (λ e. (a.none e).0, λ h. by (eqb v.number 0) refl h)
  where
    by : (b : Bool) → eqb v.number 0 ≡ b → NoCause ts → v.number ≡ 0
    by true e h = eqb-true v.number 0 e
    by false e h = absurd (none_first ts v.number v.place h (a.found (eqb-false v.number 0 e)))

-- what holds of the number and the place of every test, and of 0 and 0, holds of the answer
abbrev pub OfTests : (ℕ → ℕ → Type 0) → List Test → Type 0
OfTests Q [] = Unit {0}
OfTests Q (t ∷ ts) = Q t.number t.place × OfTests Q ts

first_holds : (Q : ℕ → ℕ → Type 0) (ts : List Test) (n p : ℕ) → OfTests Q ts → FirstCause ts n p → Q n p
first_holds Q [] n p h f = absurd f
first_holds Q (t ∷ ts) n p h (inl f) = rw (f.1, f.2) h.0
first_holds Q (t ∷ ts) n p h (inr f) = first_holds Q ts n p h.1 f.1

pub answers_hold : (Q : ℕ → ℕ → Type 0) (ts : List Test) (v : Verdict) → Answers ts v → Q 0 0 → OfTests Q ts → Q v.number v.place
answers_hold Q ts v a zeros h = by (eqb v.number 0) refl
  where
    by : (b : Bool) → eqb v.number 0 ≡ b → Q v.number v.place
    by true e = let z = eqb-true v.number 0 e in rw (z, (a.none z).1) zeros
    by false e = first_holds Q ts v.number v.place h (a.found (eqb-false v.number 0 e))

-- ---- a run is worked, or refused

pub by_verdict : (s : Scene) (l : List ℕ) (P : RunAnswer → Type 0)
    → (Accepted s l → P (done s (run_calls (calls l) s)))
    → ((verdict s l).number ≢ 0 → P (refused (verdict s l) s))
    → P (plain_run s l)
unfolding plain_run
by_verdict s l P worked stopped = by (eqb (verdict s l).number 0) refl
  where
    by : (b : Bool) → eqb (verdict s l).number 0 ≡ b → P (cond b (done s (run_calls (calls l) s)) (refused (verdict s l) s))
    by true e = worked (eqb-true (verdict s l).number 0 e)
    by false e = stopped (eqb-false (verdict s l).number 0 e)

pub run_accepted : (s : Scene) (l : List ℕ) → Accepted s l → plain_run s l ≡ done s (run_calls (calls l) s)
unfolding plain_run
run_accepted s l e = rw e

pub run_refused : (s : Scene) (l : List ℕ) → (verdict s l).number ≢ 0 → plain_run s l ≡ refused (verdict s l) s
run_refused s l ne = by_verdict s l (λ r. r ≡ refused (verdict s l) s) (λ e. absurd (ne e)) (λ n. refl)

-- its number and place are its verdict's
pub run_verdict : (s : Scene) (l : List ℕ) → ((plain_run s l).number ≡ (verdict s l).number) × ((plain_run s l).place ≡ (verdict s l).place)
run_verdict s l =
    by_verdict s l (λ r. (r.number ≡ (verdict s l).number) × (r.place ≡ (verdict s l).place))
    (λ e. (sym e, sym ((verdict_answers s l).none e).1))
    (λ ne. (refl, refl))

-- ---- an accepted list's calls

pub accepted_calls : (s : Scene) (l : List ℕ) → Accepted s l → NoCause (call_tests s 0 (calls l))
accepted_calls s l e = ((verdict_answers s l).none e).0.1.1

head_of : (s : Scene) (p : ℕ) (c : Call) (l : List Call) → NoCause (call_tests s p (c ∷ l)) → NoCause (call_tests s p (c ∷ []))
head_of s p c l h = (h.0, (h.1.0, (h.1.1.0, (h.1.1.1.0, (h.1.1.1.1.0, tt)))))

no_cause_in : (s : Scene) (p q : ℕ) (before : List Call) (c : Call) (after : List Call)
    → NoCause (call_tests s p (before ++ (c ∷ after)))
    → NoCause (call_tests s q (c ∷ []))
no_cause_in s p q [] c after h = head_of s p c after h
no_cause_in s p q (d ∷ before) c after h = no_cause_in s (p + 1) q before c after h.1.1.1.1.1

-- the call at a cut of a list without a cause has none
pub no_cause_at : (s : Scene) (p q : ℕ) (l before : List Call) (c : Call) (after : List Call) → l ≡ before ++ (c ∷ after)
    → NoCause (call_tests s p l)
    → NoCause (call_tests s q (c ∷ []))
no_cause_at s p q l before c after e h = no_cause_in s p q before c after (rw e at h)

-- nor has it one in any scene that is as it was fed
no_cause_by : (s : Scene) (p : ℕ) (c : Call) → NoCause (call_tests s p (c ∷ [])) ↔ (cause s c ≡ 0)
no_cause_by s p c =
    let a = call_answers s p c [] (verdict_of 0 0) answers_nil in
    let given = answers_none (call_tests s p (c ∷ [])) _ a in
    (λ h. to (cause s c) (given.1 h), λ e. given.0 (ap (λ n. (cond (eqb n 0) (verdict_of 0 0) (verdict_of n p)).number) e))
  where
    to : (n : ℕ) → (cond (eqb n 0) (verdict_of 0 0) (verdict_of n p)).number ≡ 0 → n ≡ 0
    to n e = by (eqb n 0) refl e
      where
        by : (b : Bool) → eqb n 0 ≡ b → (cond b (verdict_of 0 0) (verdict_of n p)).number ≡ 0 → n ≡ 0
        by true f e = eqb-true n 0 f
        by false f e = e

-- no cause of any call: each has the number 0
pub no_causes : (s : Scene) (p : ℕ) (l : List Call) → NoCause (call_tests s p l) → Every (λ c. cause s c ≡ 0) l
no_causes s p [] h = tt
no_causes s p (c ∷ l) h = ((no_cause_by s p c).0 (head_of s p c l h), no_causes s (p + 1) l h.1.1.1.1.1)

pub causes_none : (s : Scene) (p : ℕ) (l : List Call) → Every (λ c. cause s c ≡ 0) l → NoCause (call_tests s p l)
causes_none s p [] h = tt
causes_none s p (c ∷ l) h =
    let g = (no_cause_by s p c).1 h.0 in
    (g.0, (g.1.0, (g.1.1.0, (g.1.1.1.0, (g.1.1.1.1.0, causes_none s (p + 1) l h.1)))))

pub no_cause_kept : (s t : Scene) → Framed s t → (p : ℕ) (c : Call) → NoCause (call_tests s p (c ∷ [])) → NoCause (call_tests t p (c ∷ []))
no_cause_kept s t f p c h = (no_cause_by t p c).1 (cause_kept s t f c ∙ (no_cause_by s p c).0 h)
