-- What still says of the velocities of each counted body, and of all bodies. Assumes nothing.
use mathlib.Core.Path.{◌≡◌, refl, sym, ap, ◌∙◌, subst}
use mathlib.Core.Logic.{◌⊎◌, inl, inr, ⊎_elim, ◌↔◌}
use mathlib.Core.Bool.{Bool, true, false, beq, not, ◌&&◌, false≢true, and-eq-true_iff}
use mathlib.Core.List.{List, [], ◌∷◌}
use Prim.Native.Nat.{ℕ, zero, suc, ◌+◌, ◌^◌, ◌<◌}
use native.Mathlib.Nat.{lt_of_not-le}
use native.Mathlib.Omega.{arith}
use lib.Dec.{T, eqb, leb}
use lib.Ieee.{Float, nan, inf, fin, binary32, ne, eq, fits, is_nan, nan_bits, of_bits, to_bits}
use lib.Ieee.Bits.{is_true, of_bits-to_bits, to_bits-of_bits, nan_bits_is}
use lib.Ieee.Compare.{differs_from_itself}
use lib.IntN.{ℤ, pos, negsuc}
use lib.ListN.{get_or}
use lib.Seq.{ext_get_or}
use borrow.Author.Tests.{eqb-true, eqb-false, eq-eqb, leb-true, leb-false}
use Rattle.sqrt.proofs.Nans.{a_nan}
use Rattle.math_functions.specs.declared.types.Vec3.{Vec3}
use Rattle.math_functions.specs.Float.{lit}
use Rattle.records.specs.declared.body.BodyState.{BodyState}
use Rattle.records.specs.Body.{identity_body_state}
use Rattle.joint.specs.Index.{index_a, index_b}
use Rattle.scene.specs.declared.Scene.{Scene}
use Rattle.scene.specs.Scene.{joint_at, body_at, Names}
use Rattle.scene.specs.Calls.{Call, Listed}
use Rattle.scene.specs.Plain.{same_exponent, same_float, same_vector, same_velocities, same_below}
use Rattle.scene.specs.Claims.{call_tests, NoCause, OutOf, OnlyVelocities, OnlyChanges, both_velocities, SameBits}

-- ---- of two floats

is_T : {b : Bool} → b ≡ true → T b
is_T e = subst T (sym e) tt

beq_true : (s t : Bool) → beq s t ≡ true → s ≡ t
beq_true true true e = refl
beq_true false false e = refl
beq_true true false e = absurd (false≢true e)
beq_true false true e = absurd (false≢true e)

to_exponent : (e d : ℤ) → same_exponent e d ≡ true → e ≡ d
to_exponent (pos m) (pos n) h = ap pos (eqb-true m n h)
to_exponent (pos m) (negsuc n) h = absurd (false≢true h)
to_exponent (negsuc m) (pos n) h = absurd (false≢true h)
to_exponent (negsuc m) (negsuc n) h = ap negsuc (eqb-true m n h)

to_float : (x y : Float) → same_float x y ≡ true → x ≡ y
unfolding same_float is_nan
to_float nan nan h = refl
to_float nan (inf t) h = absurd (false≢true h)
to_float nan (fin t n d) h = absurd (false≢true h)
to_float (inf s) nan h = absurd (false≢true h)
to_float (inf s) (inf t) h = ap inf (beq_true s t h)
to_float (inf s) (fin t n d) h = absurd (false≢true h)
to_float (fin s m e) nan h = absurd (false≢true h)
to_float (fin s m e) (inf t) h = absurd (false≢true h)
to_float (fin s m e) (fin t n d) h =
    let sme = (and-eq-true_iff (beq s t && eqb m n) (same_exponent e d)).0 h in
    let sm = (and-eq-true_iff (beq s t) (eqb m n)).0 sme.0 in
    λ i. fin (beq_true s t sm.0 i) (eqb-true m n sm.1 i) (to_exponent e d sme.1 i)

beq_self : (s : Bool) → beq s s ≡ true
beq_self true = refl
beq_self false = refl

exponent_self : (e : ℤ) → same_exponent e e ≡ true
exponent_self (pos n) = eq-eqb n n refl
exponent_self (negsuc n) = eq-eqb n n refl

float_self : (x : Float) → same_float x x ≡ true
unfolding same_float is_nan
float_self nan = refl
float_self (inf s) = beq_self s
float_self (fin s m e) = rw (beq_self s, eq-eqb m m refl, exponent_self e)

same_float_lem : (x y : Float) → (same_float x y ≡ true) ↔ (x ≡ y)
same_float_lem x y = (to_float x y, λ e. ap (same_float x) (sym e) ∙ float_self x)

-- as code finds it: a NaN is unlike itself, and what is none has a pattern

pub nan_unlike : (x y : Float) → ne x x ≡ false → ne y y ≡ true → same_float x y ≡ false
unfolding same_float ne eq
nan_unlike x y h g = ap (same_float x) (differs_from_itself y (is_T g)) ∙ by x h
  where
    by : (x : Float) → ne x x ≡ false → same_float x nan ≡ false
    by nan h = absurd (false≢true (sym h))
    by (inf s) h = refl
    by (fin s m e) h = refl

pub same_written : (x y : Float) → T (fits binary32 x) → T (fits binary32 y) → eqb (to_bits binary32 x) (to_bits binary32 y) ≡ same_float x y
same_written x y f g = by (same_float x y) refl (eqb (to_bits binary32 x) (to_bits binary32 y)) refl
  where
    by : (a : Bool) → same_float x y ≡ a → (b : Bool) → eqb (to_bits binary32 x) (to_bits binary32 y) ≡ b → b ≡ a
    by true e b p = sym p ∙ eq-eqb _ _ (ap (to_bits binary32) (to_float x y e))
    by false e true p =
        sym ((same_float_lem x y).1 (sym (of_bits-to_bits binary32 x f) ∙ ap (of_bits binary32) (eqb-true _ _ p) ∙ of_bits-to_bits binary32 y g)) ∙ e
    by false e false p = refl

-- ---- of two patterns

module _ (a b : ℕ) (ha : a < 2 ^ 32) (hb : b < 2 ^ 32) where
  abbrev Alike : Type 0
  Alike = (a ≡ b) ⊎ (T (nan_bits binary32 a) × T (nan_bits binary32 b))

  to_bits_lem : lit a ≡ lit b → Alike
  to_bits_lem e = by (is_nan (lit a)) refl
    where
      by : (x : Bool) → is_nan (lit a) ≡ x → Alike
      by true p = inr (is_T (nan_bits_is binary32 a ∙ p), is_T (nan_bits_is binary32 b ∙ ap is_nan (sym e) ∙ p))
      by false p =
          let written = to_bits-of_bits binary32 a ha (is_T (ap not p)) in
          inl (sym written ∙ ap (to_bits binary32) e ∙ to_bits-of_bits binary32 b hb (is_T (ap (λ x. not (is_nan x)) (sym e) ∙ ap not p)))

  of_bits_lem : Alike → lit a ≡ lit b
  of_bits_lem (inl e) = ap lit e
  of_bits_lem (inr h) =
      a_nan (lit a) (sym (nan_bits_is binary32 a) ∙ is_true _ h.0) ∙ sym (a_nan (lit b) (sym (nan_bits_is binary32 b) ∙ is_true _ h.1))

pub same_patterns : SameBits
same_patterns a b ha hb = (to_bits_lem a b ha hb, of_bits_lem a b ha hb)

-- ---- of two states

to_vector : (v w : Vec3) → same_vector v w ≡ true → v ≡ w
to_vector v w h =
    let xyz = (and-eq-true_iff (same_float v.x w.x && same_float v.y w.y) (same_float v.z w.z)).0 h in
    let xy = (and-eq-true_iff (same_float v.x w.x) (same_float v.y w.y)).0 xyz.0 in
    λ i. record { x = to_float _ _ xy.0 i; y = to_float _ _ xy.1 i; z = to_float _ _ xyz.1 i }

vector_self : (v : Vec3) → same_vector v v ≡ true
vector_self v = rw (float_self v.x, float_self v.y, float_self v.z)

abbrev Same : BodyState → BodyState → Type 0
Same a b = both_velocities b ≡ both_velocities a

to_same : (a b : BodyState) → same_velocities a b ≡ true → Same a b
unfolding same_velocities
to_same a b e =
    let h = (and-eq-true_iff (same_vector a.linear_velocity b.linear_velocity) (same_vector a.angular_velocity b.angular_velocity)).0 e in
    sym (λ i. (to_vector _ _ h.0 i, to_vector _ _ h.1 i))

of_same : (a b : BodyState) → Same a b → same_velocities a b ≡ true
unfolding same_velocities
of_same a b e =
    let v = ap (λ p. p.0) e in
    let w = ap (λ p. p.1) e in
    rw (v, w, vector_self a.linear_velocity, vector_self a.angular_velocity)

-- ---- of the first bodies

to_each : (n : ℕ) (bs cs : List BodyState) → same_below n bs cs ≡ true → (k : ℕ) → k < n
    → Same (get_or bs k identity_body_state) (get_or cs k identity_body_state)
to_each zero bs cs e k h = absurd (omega arith)
to_each (suc n) bs cs e k h = by (to_each n bs cs parts.0 k) (eqb k n) refl
  where
    parts : (same_below n bs cs ≡ true) × (same_velocities (get_or bs n identity_body_state) (get_or cs n identity_body_state) ≡ true)
    parts = (and-eq-true_iff (same_below n bs cs) (same_velocities (get_or bs n identity_body_state) (get_or cs n identity_body_state))).0 e

    by : (k < n → Same (get_or bs k identity_body_state) (get_or cs k identity_body_state)) → (b : Bool) → eqb k n ≡ b
        → Same (get_or bs k identity_body_state) (get_or cs k identity_body_state)
    by below true f = rw (eqb-true k n f) (to_same (get_or bs n identity_body_state) (get_or cs n identity_body_state) parts.1)
    by below false f = below (omega (arith, eqb-false k n f))

of_each : (n : ℕ) (bs cs : List BodyState)
    → ((k : ℕ) → k < n → Same (get_or bs k identity_body_state) (get_or cs k identity_body_state)) → same_below n bs cs ≡ true
of_each zero bs cs h = refl
of_each (suc n) bs cs h =
    (and-eq-true_iff (same_below n bs cs) (same_velocities (get_or bs n identity_body_state) (get_or cs n identity_body_state))).1
    (of_each n bs cs (λ k g. h k (omega arith)), of_same (get_or bs n identity_body_state) (get_or cs n identity_body_state) (h n (omega arith)))

pub same_below_lem : (n : ℕ) (bs cs : List BodyState)
    → (same_below n bs cs ≡ true) ↔ ((k : ℕ) → k < n → Same (get_or bs k identity_body_state) (get_or cs k identity_body_state))
same_below_lem n bs cs = (to_each n bs cs, of_each n bs cs)

-- ---- of all bodies

-- an accepted list's joints name counted bodies alone
module _ (s : Scene) (j n : ℕ) where
  index_counted : (i : ℤ) → ¬ (OutOf s.body_count i) → i ≡ pos n → n < s.body_count
  index_counted i h e = lt_of_not-le (λ g. h (subst (OutOf s.body_count) (sym e) g))

  named_counted : (place : ℕ) (l : List Call) → NoCause (call_tests s place l) → Listed j l → Names s j n → n < s.body_count
  named_counted place [] h p names = elim p [ ]
  named_counted place (c ∷ l) h (inl e) names =
      let found = ap (λ k. (joint_at s k).union_) e in
      ⊎_elim (index_counted _ (subst (λ u. ¬ (OutOf s.body_count (index_a u))) found h.1.1.1.0))
      (index_counted _ (subst (λ u. ¬ (OutOf s.body_count (index_b u))) found h.1.1.1.1.0)) names
  named_counted place (c ∷ l) h (inr p) names = named_counted (place + 1) l h.1.1.1.1.1 p names

state_of : (a b : BodyState) → OnlyVelocities a b → Same a b → b ≡ a
state_of a b rest e = λ i.
    record {
      linear_velocity = (e i).0;
      angular_velocity = (e i).1;
      delta_position = rest.delta_position i;
      delta_rotation = rest.delta_rotation i;
      flags = rest.flags i;
    }

module _ (s : Scene) (l : List Call) (t : Scene) (given : NoCause (call_tests s 0 l)) (changes : OnlyChanges s l t)
    (same : (n : ℕ) → n < s.body_count → Same (body_at s n) (body_at t n)) where
  body_same : (n : ℕ) → body_at t n ≡ body_at s n
  body_same n = by (leb s.body_count n) refl
    where
      by : (b : Bool) → leb s.body_count n ≡ b → body_at t n ≡ body_at s n
      by true e = changes.body_kept n (λ j p names d. omega (arith, named_counted s j n 0 l given p names, leb-true s.body_count n e))
      by false e = state_of _ _ (changes.bodies n) (same n (leb-false s.body_count n e))

  pub bodies_same : t.bodies ≡ s.bodies
  bodies_same = ext_get_or identity_body_state t.bodies s.bodies changes.as_many_bodies (λ n h. body_same n)
