-- The theorem on order with its hypotheses at the counted slots alone: an accepted list has no call of another slot. Assumes nothing.
use mathlib.Core.Path.{◌≡◌, refl, sym, ap, ◌∙◌}
use mathlib.Core.Logic.{◌≢◌}
use mathlib.Core.Bool.{Bool, true, false, or-false}
use mathlib.Core.List.{List, [], ◌∷◌}
use Prim.Native.Nat.{ℕ, ◌+◌, ◌≤◌, ◌<◌}
use native.Mathlib.Nat.{lt_of_not-le}
use native.Mathlib.Omega.{arith}
use lib.Dec.{eqb, leb}
use borrow.Author.Tests.{leb-false, leb-true, ne_eqb}
use Rattle.scene.specs.declared.Scene.{Scene}
use Rattle.scene.specs.Scene.{ShareDynamic}
use Rattle.scene.specs.Calls.{Call, calls, Every, keep_if, only_of, only_of_two}
use Rattle.scene.specs.Plain.{Accepted, plain_run}
use Rattle.scene.specs.Claims.{call_tests, NoCause}
use Rattle.scene.proofs.Accepted.{accepted_calls}
use Rattle.scene.proofs.Order.{same_answer}

slots_of : (s : Scene) (place : ℕ) (l : List Call) → NoCause (call_tests s place l) → Every (λ c. c.slot < s.joint_count) l
slots_of s place [] h = tt
slots_of s place (c ∷ l) h = (lt_of_not-le h.0, slots_of s (place + 1) l h.1.1.1.1.1)

-- a slot that is not counted is not listed
pub accepted_slots : (s : Scene) (l : List ℕ) → Accepted s l → Every (λ c. c.slot < s.joint_count) (calls l)
accepted_slots s l e = slots_of s 0 (calls l) (accepted_calls s l e)

none_of : (n j : ℕ) (l : List Call) → n ≤ j → Every (λ c. c.slot < n) l → only_of j l ≡ []
none_of n j [] h e = refl
none_of n j (c ∷ l) h e = rw (ne_eqb c.slot j (λ p. omega (arith, e.0))) (none_of n j l h e.1)

left_none : (n j k : ℕ) (l : List Call) → n ≤ j → Every (λ c. c.slot < n) l → only_of_two j k l ≡ only_of k l
left_none n j k [] h e = refl
left_none n j k (c ∷ l) h e = rw (ne_eqb c.slot j (λ p. omega (arith, e.0))) (ap (keep_if (eqb c.slot k) c) (left_none n j k l h e.1))

right_none : (n j k : ℕ) (l : List Call) → n ≤ k → Every (λ c. c.slot < n) l → only_of_two j k l ≡ only_of j l
right_none n j k [] h e = refl
right_none n j k (c ∷ l) h e =
    rw (ne_eqb c.slot k (λ p. omega (arith, e.0)), or-false (eqb c.slot j)) (ap (keep_if (eqb c.slot j) c) (right_none n j k l h e.1))

module _ (s : Scene) (l₁ l₂ : List ℕ) (a₁ : Accepted s l₁) (a₂ : Accepted s l₂)
    (one : (j : ℕ) → j < s.joint_count → only_of j (calls l₁) ≡ only_of j (calls l₂))
    (two : (j k : ℕ) → j < s.joint_count → k < s.joint_count → j ≢ k → ShareDynamic s j k → only_of_two j k (calls l₁) ≡ only_of_two j k (calls l₂)) where
  every_one : (j : ℕ) → only_of j (calls l₁) ≡ only_of j (calls l₂)
  every_one j = by (leb s.joint_count j) refl
    where
      by : (b : Bool) → leb s.joint_count j ≡ b → only_of j (calls l₁) ≡ only_of j (calls l₂)
      by true e =
          let h = leb-true s.joint_count j e in
          none_of s.joint_count j (calls l₁) h (accepted_slots s l₁ a₁) ∙ sym (none_of s.joint_count j (calls l₂) h (accepted_slots s l₂ a₂))
      by false e = one j (leb-false s.joint_count j e)

  every_two : (j k : ℕ) → j ≢ k → ShareDynamic s j k → only_of_two j k (calls l₁) ≡ only_of_two j k (calls l₂)
  every_two j k ne shared = by (leb s.joint_count j) (leb s.joint_count k) refl refl
    where
      by : (a b : Bool) → leb s.joint_count j ≡ a → leb s.joint_count k ≡ b → only_of_two j k (calls l₁) ≡ only_of_two j k (calls l₂)
      by true b p q =
          let h = leb-true s.joint_count j p in
          left_none s.joint_count j k (calls l₁) h (accepted_slots s l₁ a₁)
          ∙ every_one k
          ∙ sym (left_none s.joint_count j k (calls l₂) h (accepted_slots s l₂ a₂))
      by false true p q =
          let h = leb-true s.joint_count k q in
          right_none s.joint_count j k (calls l₁) h (accepted_slots s l₁ a₁)
          ∙ every_one j
          ∙ sym (right_none s.joint_count j k (calls l₂) h (accepted_slots s l₂ a₂))
      by false false p q = two j k (leb-false s.joint_count j p) (leb-false s.joint_count k q) ne shared

  pub same_answer_counted : plain_run s l₁ ≡ plain_run s l₂
  same_answer_counted = same_answer s l₁ l₂ a₁ a₂ every_one every_two
