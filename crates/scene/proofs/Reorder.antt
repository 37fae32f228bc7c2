-- The order of calls does not matter but for calls of one slot, or of two slots that depend on each other. Assumes nothing.
use mathlib.Core.Path.{◌≡◌, refl, sym, ap, ◌∙◌}
use mathlib.Core.Bool.{Bool, true, false, ◌||◌, true≢false, false≢true}
use mathlib.Core.List.{List, [], ◌∷◌}
use Prim.Native.Nat.{ℕ}
use native.Mathlib.Omega.{arith}
use lib.Dec.{eqb}
use borrow.Author.Tests.{eqb-true, eqb-false, eq-eqb, ne_eqb}
use Rattle.scene.specs.Calls.{keep, keep_if}
use Rattle.scene.specs.Plain.{run_all}

module _ {C : Type 0} where
  -- the calls of two slots
  abbrev pub of_two : (C → ℕ) → ℕ → ℕ → C → Bool
  of_two slot j k a = eqb (slot a) j || eqb (slot a) k

  keep_yes : (p : C → Bool) (a : C) (l : List C) → p a ≡ true → keep p (a ∷ l) ≡ a ∷ keep p l
  keep_yes p a l e = ap (λ b. keep_if b a (keep p l)) e

  keep_no : (p : C → Bool) (a : C) (l : List C) → p a ≡ false → keep p (a ∷ l) ≡ keep p l
  keep_no p a l e = ap (λ b. keep_if b a (keep p l)) e

-- `step` on a call; `slot` of a call; `dep` says of two slots whether the order of their calls counts; `Good` holds of every state on the way
pub record Steps {C S : Type 0} (step : C → S → S) (slot : C → ℕ) (dep : ℕ → ℕ → Bool) (Good : S → Type 0) : Type 0 where
  pub self : (j : ℕ) → dep j j ≡ true
  pub either : (j k : ℕ) → dep j k ≡ true → dep k j ≡ true
  pub keeps : (a : C) (s : S) → Good s → Good (step a s)
  pub apart : (a b : C) (s : S) → Good s → dep (slot a) (slot b) ≡ false → step b (step a s) ≡ step a (step b s)

both : (a b : Bool) → a ≡ false → b ≡ false → a || b ≡ false
both a b p q = rw (p, q)

pub or_left : (a b : Bool) → a ≡ true → a || b ≡ true
or_left a b p = rw p

pub or_right : (a b : Bool) → b ≡ true → a || b ≡ true
or_right true b p = refl
or_right false b p = p

none_is : {C : Type 0} {a : C} {l : List C} → ◌≡◌ {A = List C} [] (a ∷ l) → ⊥
none_is e = let z : ◌≡◌ {A = ℕ} 0 1 = cc in omega arith

module _ {C S : Type 0} (step : C → S → S) (slot : C → ℕ) (dep : ℕ → ℕ → Bool) (Good : S → Type 0) (laws : Steps step slot dep Good) where
  -- two lists read the same at every two slots that depend on each other
  abbrev Alike : List C → List C → Type 0
  Alike l₁ l₂ = (j k : ℕ) → dep j k ≡ true → keep (of_two slot j k) l₁ ≡ keep (of_two slot j k) l₂

  -- at every slot that depends on `a`'s, `a` comes first in `l`
  abbrev First : C → List C → Type 0
  First a l = (j : ℕ) → dep (slot a) j ≡ true → (t : List C) × (keep (of_two slot (slot a) j) l ≡ a ∷ t)

  -- what is left of `l` once its call `a` is moved to the front
  record Front (a : C) (l : List C) : Type 0 where
    rest : List C
    moved : (s : S) → Good s → run_all step l s ≡ run_all step rest (step a s)
    read : (j k : ℕ) → dep j k ≡ true → keep (of_two slot j k) l ≡ keep (of_two slot j k) (a ∷ rest)

  -- two tests of slots that depend on each other do not both pick calls of different slots that do not
  never_both : (a d : C) (j k : ℕ) → (slot d ≡ slot a → ⊥) → dep (slot a) (slot d) ≡ false → dep j k ≡ true
      → of_two slot j k a ≡ true
      → of_two slot j k d ≡ true
      → ⊥
  never_both a d j k ne free e pa pd = at (eqb (slot a) j) (eqb (slot a) k) (eqb (slot d) j) (eqb (slot d) k) refl refl refl refl pa pd
    where
      straight : slot a ≡ j → slot d ≡ k → ⊥
      straight p q = let z : dep (slot a) (slot d) ≡ true = cc in true≢false (sym z ∙ free)

      crossed : slot a ≡ k → slot d ≡ j → ⊥
      crossed p q =
          let t : dep k j ≡ true = laws.either j k e in
          let z : dep (slot a) (slot d) ≡ true = cc in
          true≢false (sym z ∙ free)

      at : (x y z w : Bool) → eqb (slot a) j ≡ x → eqb (slot a) k ≡ y → eqb (slot d) j ≡ z → eqb (slot d) k ≡ w → x || y ≡ true → z || w ≡ true → ⊥
      at true y true w p₁ p₂ p₃ p₄ p q = ne (eqb-true _ _ p₃ ∙ sym (eqb-true _ _ p₁))
      at true y false true p₁ p₂ p₃ p₄ p q = straight (eqb-true _ _ p₁) (eqb-true _ _ p₄)
      at true y false false p₁ p₂ p₃ p₄ p q = false≢true q
      at false true true w p₁ p₂ p₃ p₄ p q = crossed (eqb-true _ _ p₂) (eqb-true _ _ p₃)
      at false true false true p₁ p₂ p₃ p₄ p q = ne (eqb-true _ _ p₄ ∙ sym (eqb-true _ _ p₂))
      at false true false false p₁ p₂ p₃ p₄ p q = false≢true q
      at false false z w p₁ p₂ p₃ p₄ p q = false≢true p

  -- `d` stays after `a`
  stays_after : (a d : C) (l : List C) → (slot d ≡ slot a → ⊥) → dep (slot a) (slot d) ≡ false → Front a l → Front a (d ∷ l)
  stays_after a d l ne free f = record { rest = d ∷ f.rest; moved = moves; read = reads }
    where
      moves : (s : S) → Good s → run_all step l (step d s) ≡ run_all step f.rest (step d (step a s))
      moves s g = f.moved (step d s) (laws.keeps d s g) ∙ ap (run_all step f.rest) (sym (laws.apart a d s g free))

      pick : (x y : Bool) (m n : List C) → (x ≡ true → y ≡ true → ⊥) → m ≡ keep_if x a n → keep_if y d m ≡ keep_if x a (keep_if y d n)
      pick true true m n h e = absurd (h refl refl)
      pick true false m n h e = e
      pick false true m n h e = ap (λ t. d ∷ t) e
      pick false false m n h e = e

      reads : (j k : ℕ) → dep j k ≡ true → keep (of_two slot j k) (d ∷ l) ≡ keep (of_two slot j k) (a ∷ d ∷ f.rest)
      reads j k e =
          let two = of_two slot j k in
          pick (two a) (two d) (keep two l) (keep two f.rest) (never_both a d j k ne free e) (f.read j k e)

  -- a call that comes first can be moved to the front
  module _ (a d : C) (l : List C) (h : First a (d ∷ l)) where
    here : eqb (slot d) (slot a) ≡ true → d ≡ a
    here e =
        let own = of_two slot (slot a) (slot a) in
        let k : keep own (d ∷ l) ≡ d ∷ keep own l = keep_yes own d l (or_left (eqb (slot d) (slot a)) (eqb (slot d) (slot a)) e) in
        let q = (h (slot a) (laws.self (slot a))).1 in
        cc

    there : dep (slot a) (slot d) ≡ true → d ≡ a
    there e =
        let two = of_two slot (slot a) (slot d) in
        let met : two d ≡ true = or_right (eqb (slot d) (slot a)) (eqb (slot d) (slot d)) (eq-eqb (slot d) (slot d) refl) in
        let k : keep two (d ∷ l) ≡ d ∷ keep two l = keep_yes two d l met in
        let q = (h (slot d) e).1 in
        cc

    after : eqb (slot d) (slot a) ≡ false → dep (slot a) (slot d) ≡ false → First a l
    after ne free j e =
        let other : eqb (slot d) j ≡ false = ne_eqb (slot d) j (λ q. true≢false (sym e ∙ ap (dep (slot a)) (sym q) ∙ free)) in
        ((h j e).0, sym (keep_no (of_two slot (slot a) j) d l (both (eqb (slot d) (slot a)) (eqb (slot d) j) ne other)) ∙ (h j e).1)

    at : (First a l → Front a l) → (x y : Bool) → eqb (slot d) (slot a) ≡ x → dep (slot a) (slot d) ≡ y → Front a (d ∷ l)
    at again true y p q =
        let e = here p in
        record { rest = l; moved = λ s g. ap (λ t. run_all step l (step t s)) e; read = λ j k r. ap (λ t. keep (of_two slot j k) (t ∷ l)) e }
    at again false true p q = absurd (eqb-false _ _ p (ap slot (there q)))
    at again false false p q = stays_after a d l (eqb-false _ _ p) q (again (after p q))

  front : (a : C) (l : List C) → First a l → Front a l
  front a [] h = absurd (none_is (h (slot a) (laws.self (slot a))).1)
  front a (d ∷ l) h = at a d l h (front a l) (eqb (slot d) (slot a)) (dep (slot a) (slot d)) refl refl

  -- a call is kept with those of its own slot
  keep_own : (a : C) (j : ℕ) (l : List C) → keep (of_two slot (slot a) j) (a ∷ l) ≡ a ∷ keep (of_two slot (slot a) j) l
  keep_own a j l = keep_yes (of_two slot (slot a) j) a l (or_left (eqb (slot a) (slot a)) (eqb (slot a) j) (eq-eqb (slot a) (slot a) refl))

  -- a list that reads like the empty one is empty
  empty : (l : List C) → Alike [] l → l ≡ []
  empty [] h = refl
  empty (a ∷ l) h = absurd (none_is (h (slot a) (slot a) (laws.self (slot a)) ∙ keep_own a (slot a) l))

  -- the head of a list comes first in every list that reads like it
  first : (a : C) (l₁ l₂ : List C) → Alike (a ∷ l₁) l₂ → First a l₂
  first a l₁ l₂ h j e = (keep (of_two slot (slot a) j) l₁, sym (h (slot a) j e) ∙ keep_own a j l₁)

  tails : (x : Bool) (a : C) (m n : List C) → keep_if x a m ≡ keep_if x a n → m ≡ n
  tails true a m n e = cc
  tails false a m n e = e

  -- two lists that read the same at every one slot, and at every two that depend on each other, end in the same state
  pub reorder : (l₁ l₂ : List C) → ((j k : ℕ) → dep j k ≡ true → keep (of_two slot j k) l₁ ≡ keep (of_two slot j k) l₂)
      → (s : S) → Good s
      → run_all step l₁ s ≡ run_all step l₂ s
  reorder [] l₂ h s g = sym (ap (λ t. run_all step t s) (empty l₂ h))
  reorder (a ∷ l₁) l₂ h s g =
      let f = front a l₂ (first a l₁ l₂ h) in
      reorder l₁ f.rest (λ j k e. tails (of_two slot j k a) a _ _ (h j k e ∙ f.read j k e)) (step a s) (laws.keeps a s g) ∙ sym (f.moved s g)
