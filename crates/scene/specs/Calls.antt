-- A list of calls: how bytes are read as calls, and document 01's words for a list. Definitions only. Assumes nothing.
use Rattle.std.specs.Prelude.{◌≡◌, ◌⊎◌, ◌≢◌, Bool, true, false, ◌||◌, List, [], ◌∷◌, ℕ, eqb}

-- 'a list is bytes, two per call: joint slot, then stage'
pub record Call : Type 0 where
  pub slot : ℕ
  pub stage : ℕ

abbrev pub call : ℕ → ℕ → Call
call slot stage = record { slot = slot; stage = stage }

abbrev pub calls : List ℕ → List Call
calls [] = []
calls (x ∷ []) = []
calls (x ∷ y ∷ l) = call x y ∷ calls l

module _ {C : Type 0} where
  -- some element of the list meets P
  abbrev pub Some : (C → Type 0) → List C → Type 0
  Some P [] = ⊥
  Some P (a ∷ l) = P a ⊎ Some P l

  -- every element meets P
  abbrev pub Every : (C → Type 0) → List C → Type 0
  Every P [] = Unit {0}
  Every P (a ∷ l) = P a × Every P l

  -- `a` before the list, where the test says so
  abbrev pub keep_if : Bool → C → List C → List C
  keep_if true a l = a ∷ l
  keep_if false a l = l

  -- the elements that meet a test, in their order
  abbrev pub keep : (C → Bool) → List C → List C
  keep p [] = []
  keep p (a ∷ l) = keep_if (p a) a (keep p l)

-- 'a joint is listed if its slot stands in the list'
abbrev pub Listed : ℕ → List Call → Type 0
Listed j l = Some (λ c. c.slot ≡ j) l

-- a solve of the joint stands in the list: stage 1 or 2
abbrev pub SolveListed : ℕ → List Call → Type 0
SolveListed j l = Some (λ c. (c.slot ≡ j) × (c.stage ≢ 0)) l

-- 'keeping some joints' calls strikes out all others and leaves the order': one joint's, two joints'
abbrev pub only_of : ℕ → List Call → List Call
only_of j l = keep (λ c. eqb c.slot j) l

abbrev pub only_of_two : ℕ → ℕ → List Call → List Call
only_of_two j k l = keep (λ c. eqb c.slot j || eqb c.slot k) l
