-- What the code of a call's stage tells of its slot, its joint and its stage. Assumes nothing.
use mathlib.Core.Path.{◌≡◌, refl, ap, ◌∙◌}
use mathlib.Core.Logic.{◌⊎◌, inl, inr, ◌≢◌}
use mathlib.Core.Bool.{Bool, true, false, cond}
use Prim.Native.Nat.{ℕ, ◌+◌, ◌≤◌, ◌<◌}
use native.Mathlib.Omega.{arith}
use lib.Dec.{eqb, ltb}
use borrow.Author.Tests.{eqb-true, eqb-false}
use Rattle.records.specs.declared.joint.JointUnion.{JointUnion}
use Rattle.records.specs.declared.joint.JointUnion.TheVariants.{Revolute, Spherical, Weld, Other}
use Rattle.records.specs.Joint.{case_of}
use Rattle.call_list.specs.declared.positions.Work.{Work}
use Rattle.call_list.specs.declared.positions.Work.TheVariants.{RevoluteWarmStart, SphericalWarmStart, WeldWarmStart}
use Rattle.call_list.specs.declared.positions.Work.TheVariants.{RevoluteSolve, SphericalSolve, WeldSolve, Nothing}
use Rattle.call_list.specs.Positions.{work_of}

-- the work of a call in one number: a warm start's is its joint's case, a solve's three more, and 6 where nothing is worked
unfoldable pub code : Work → ℕ
code RevoluteWarmStart = 0
code SphericalWarmStart = 1
code WeldWarmStart = 2
code RevoluteSolve = 3
code SphericalSolve = 4
code WeldSolve = 5
code Nothing = 6

pub nothing : (w : Work) → w ≡ Nothing → 6 ≤ code w
unfolding code
nothing w e = let six : code w ≡ 6 = ap code e in omega (arith, six)

unfoldable pub code_in : ℕ → ℕ → ℕ
code_in slot x = cond (ltb slot 32) x 6

unfoldable pub stage_code : ℕ → JointUnion → ℕ → ℕ
stage_code slot (Revolute j) stage = code_in slot (cond (eqb stage 0) 0 3)
stage_code slot (Spherical j) stage = code_in slot (cond (eqb stage 0) 1 4)
stage_code slot (Weld j) stage = code_in slot (cond (eqb stage 0) 2 5)
stage_code slot Other stage = 6

pub coded : (w : Work) (slot : ℕ) (u : JointUnion) (stage : ℕ) → w ≡ work_of slot u stage → code w ≡ stage_code slot u stage
unfolding work_of stage_code code_in code
coded w slot u stage e = ap code e ∙ by u (ltb slot 32) (eqb stage 0) refl refl
  where
    by : (u : JointUnion) (b warm : Bool) → ltb slot 32 ≡ b → eqb stage 0 ≡ warm → code (work_of slot u stage) ≡ stage_code slot u stage
    by (Revolute j) true true f g = rw (f, g) refl
    by (Revolute j) true false f g = rw (f, g) refl
    by (Revolute j) false warm f g = rw f refl
    by (Spherical j) true true f g = rw (f, g) refl
    by (Spherical j) true false f g = rw (f, g) refl
    by (Spherical j) false warm f g = rw f refl
    by (Weld j) true true f g = rw (f, g) refl
    by (Weld j) true false f g = rw (f, g) refl
    by (Weld j) false warm f g = rw f refl
    by Other b warm f g = refl

-- past the last slot a code is that of no stage
in_slot : (slot x k : ℕ) → code_in slot x ≡ k → k < 6 → (ltb slot 32 ≡ true) × (x ≡ k)
unfolding code_in
in_slot slot x k e h = by (ltb slot 32) refl e
  where
    by : (b : Bool) → ltb slot 32 ≡ b → cond b x 6 ≡ k → (ltb slot 32 ≡ true) × (x ≡ k)
    by true f e = (f, e)
    by false f e = absurd (omega (arith, e))

-- a code below 3: there is a joint, the code is its case, and the stage is a warm start
pub warm_code : (slot : ℕ) (u : JointUnion) (stage k : ℕ) → stage_code slot u stage ≡ k → k < 3
    → (ltb slot 32 ≡ true) × (case_of u ≡ k) × (stage ≡ 0)
unfolding stage_code
warm_code slot u stage k e h = by u (eqb stage 0) refl e
  where
    warm : (x : ℕ) → eqb stage 0 ≡ true → code_in slot x ≡ k → (ltb slot 32 ≡ true) × (x ≡ k) × (stage ≡ 0)
    warm x f e = let g = in_slot slot x k e (omega arith) in (g.0, g.1, eqb-true stage 0 f)

    other : (x : ℕ) → 3 ≤ x → code_in slot x ≡ k → ⊥
    other x o e = let g = in_slot slot x k e (omega arith) in omega (arith, g.1)

    by : (u : JointUnion) (b : Bool) → eqb stage 0 ≡ b → stage_code slot u stage ≡ k → (ltb slot 32 ≡ true) × (case_of u ≡ k) × (stage ≡ 0)
    by (Revolute j) true f e = warm 0 f (rw f at e)
    by (Spherical j) true f e = warm 1 f (rw f at e)
    by (Weld j) true f e = warm 2 f (rw f at e)
    by (Revolute j) false f e = absurd (other 3 (omega arith) (rw f at e))
    by (Spherical j) false f e = absurd (other 4 (omega arith) (rw f at e))
    by (Weld j) false f e = absurd (other 5 (omega arith) (rw f at e))
    by Other b f e = let g : 6 ≡ k = e in absurd (omega (arith, g))

-- a code from 3 to 5: there is a joint, the code is its case and three more, and the stage is a solve
pub solve_code : (slot : ℕ) (u : JointUnion) (stage k : ℕ) → stage_code slot u stage ≡ k + 3 → k < 3
    → (ltb slot 32 ≡ true) × (case_of u ≡ k) × (stage ≢ 0)
unfolding stage_code
solve_code slot u stage k e h = by u (eqb stage 0) refl e
  where
    solve : (x : ℕ) → eqb stage 0 ≡ false → code_in slot (x + 3) ≡ k + 3 → (ltb slot 32 ≡ true) × (x ≡ k) × (stage ≢ 0)
    solve x f e = let g = in_slot slot (x + 3) (k + 3) e (omega arith) in (g.0, omega (arith, g.1), eqb-false stage 0 f)

    other : (x : ℕ) → x < 3 → code_in slot x ≡ k + 3 → ⊥
    other x o e = let g = in_slot slot x (k + 3) e (omega arith) in omega (arith, g.1)

    by : (u : JointUnion) (b : Bool) → eqb stage 0 ≡ b → stage_code slot u stage ≡ k + 3 → (ltb slot 32 ≡ true) × (case_of u ≡ k) × (stage ≢ 0)
    by (Revolute j) true f e = absurd (other 0 (omega arith) (rw f at e))
    by (Spherical j) true f e = absurd (other 1 (omega arith) (rw f at e))
    by (Weld j) true f e = absurd (other 2 (omega arith) (rw f at e))
    by (Revolute j) false f e = solve 0 f (rw f at e)
    by (Spherical j) false f e = solve 1 f (rw f at e)
    by (Weld j) false f e = solve 2 f (rw f at e)
    by Other b f e = let g : 6 ≡ k + 3 = e in absurd (omega (arith, g))

-- any other code: the slot is past the last, or the joint is of the empty case
pub no_code : (slot : ℕ) (u : JointUnion) (stage : ℕ) → 6 ≤ stage_code slot u stage → (ltb slot 32 ≡ false) ⊎ (u ≡ Other)
unfolding stage_code code_in
no_code slot u stage h = by u (ltb slot 32) (eqb stage 0) refl refl h
  where
    by : (u : JointUnion) (s w : Bool) → ltb slot 32 ≡ s → eqb stage 0 ≡ w → 6 ≤ stage_code slot u stage → (ltb slot 32 ≡ false) ⊎ (u ≡ Other)
    by u false w f g h = inl f
    by (Revolute j) true true f g h = absurd (omega (arith, rw (f, g) at h))
    by (Spherical j) true true f g h = absurd (omega (arith, rw (f, g) at h))
    by (Weld j) true true f g h = absurd (omega (arith, rw (f, g) at h))
    by (Revolute j) true false f g h = absurd (omega (arith, rw (f, g) at h))
    by (Spherical j) true false f g h = absurd (omega (arith, rw (f, g) at h))
    by (Weld j) true false f g h = absurd (omega (arith, rw (f, g) at h))
    by Other true w f g h = inr refl
