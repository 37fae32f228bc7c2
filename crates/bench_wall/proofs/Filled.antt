-- An array whose elements are what a closure gives at each index. Assumes nothing.
use mathlib.Core.Path.{◌≡◌, refl, sym, subst, ◌∙◌}
use mathlib.Core.List.{List}
use Prim.Native.Nat.{ℕ, zero, suc, ◌+◌, ◌<◌}
use native.Mathlib.Numerals.{add-one}
use native.Mathlib.Omega.{arith}
use denote.Param.Members.{Mut, Called}
use lib.ListN.{length, take}
use lib.Seq.{take_all, take-suc}
use Rattle.std.specs.Array.{IsFromFnResult, IsFromFnResultFrom}
use Rattle.bench_wall.specs.Wall.{each}

module _ {F B : Type 0} (g : Mut F (ℕ × Unit {0}) B) (f : F) (h : ℕ → B) (n : ℕ) where
  -- a call at i gives h i, and leaves the closure as it is
  abbrev pub Gives : Type 0
  Gives = (i : ℕ) (y : B) (q : F) → i < n → Called g f (i, tt) y q → (y ≡ h i) × (q ≡ f)

  module _ (gives : Gives) (l : List B) (long : length l ≡ n) where
    made_from : (i m : ℕ) → i + m ≡ n → take i l ≡ each i h → IsFromFnResultFrom g f l i m → l ≡ each n h
    unfolding each
    made_from i zero e t p = sym (take_all n l (omega arith)) ∙ subst (λ k. take k l ≡ each k h) (omega arith) t
    made_from i (suc m) e t (q, y, at, called, p) =
        let given = gives i y q (omega arith) called in
        made_from (i + 1) m (omega arith)
        (rw (add-one i, take-suc l i y (omega arith), t, at.0, given.0))
        (subst (λ s. IsFromFnResultFrom g s l (i + 1) m) given.1 p)

  pub made : Gives → (l : List B) → IsFromFnResult g f l n → l ≡ each n h
  unfolding each
  made gives l p = made_from gives l p.long 0 n (omega arith) refl p.each
