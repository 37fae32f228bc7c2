-- An array whose elements are what a closure gives. Assumes nothing.
use mathlib.Core.Path.{◌≡◌, refl, sym, subst}
use mathlib.Core.List.{List}
use Prim.Native.Nat.{ℕ, zero, suc, ◌+◌, ◌≤◌, ◌<◌}
use denote.Param.Members.{Mut, Called}
use lib.Dec.{eqb}
use borrow.Author.Tests.{eqb-true, eqb-false}
use mathlib.Core.Bool.{Bool, true, false}
use Rattle.std.specs.Array.{IsFromFnResult, IsFromFnResultFrom}
use native.Mathlib.Omega.{arith}
use lib.ListN.{get_or}

-- what holds of each result of a closure that its calls leave as it is holds of each element of the array
module _ {F B : Type 0} (g : Mut F (ℕ × Unit {0}) B) (f : F) (P : ℕ → B → Type 0) (n : ℕ) where
  abbrev pub Gives : Type 0
  Gives = (i : ℕ) (y : B) (q : F) → i < n → Called g f (i, tt) y q → P i y × (q ≡ f)

  module _ (gives : Gives) (l : List B) where
    from : (i m k : ℕ) (d : B) → i + m ≡ n → i ≤ k → k < n → IsFromFnResultFrom g f l i m → P k (get_or l k d)
    from i zero k d e low high p = absurd (omega arith)
    from i (suc m) k d e low high (q, y, at, called, p) =
        let given = gives i y q (omega arith) called in
        by (eqb i k) refl given.0
        (λ past. from (i + 1) m k d (omega arith) past high (subst (λ s. IsFromFnResultFrom g s l (i + 1) m) given.1 p))
      where
        by : (b : Bool) → eqb i k ≡ b → P i y → (i + 1 ≤ k → P k (get_or l k d)) → P k (get_or l k d)
        by true t here later = subst (λ j. P j (get_or l j d)) (eqb-true i k t) (subst (P i) (sym (at.1 d)) here)
        by false t here later = let apart = eqb-false i k t in later (omega (arith, low, apart))

    pub made_at : IsFromFnResult g f l n → (k : ℕ) (d : B) → k < n → P k (get_or l k d)
    made_at p k d h = from 0 n k d (omega arith) (omega arith) h p.each
