-- Two states, stored one after the other. Assumes nothing.
use mathlib.Core.Path.{◌≡◌, refl, sym, ap, ap₂, ◌∙◌}
use mathlib.Core.Bool.{Bool, true, false, cond, false≢true}
use mathlib.Core.List.{List, [], ◌∷◌}
use Prim.Native.Nat.{ℕ, zero, suc}
use native.Mathlib.Nat.{lt_of_not-le}
use lib.IntN.{ℤ, pos, negsuc}
use lib.ListN.{length, get_or, set}
use lib.Seq.{get_or-set_same}
use borrow.Author.Tests.{eqb-true, eqb-false}
use Rattle.math_functions.specs.declared.types.Vec3.{Vec3}
use Rattle.records.specs.declared.body.BodyState.{BodyState}
use Rattle.records.specs.Body.{is_dynamic, with_velocities, store_velocities, identity_body_state}
use Rattle.constraint.specs.declared.velocity.Velocities.{Velocities}
use Rattle.joint.specs.Store.{state_pair, store_pair}
use Rattle.scene.specs.Scene.{state_at, store}
use Rattle.scene.specs.Claims.{OutOf}
use Rattle.scene.proofs.Stores.{store_long, elsewhere}
use Rattle.direct.specs.Claims.{one_body}

-- ---- a state that is stored twice

-- the second store replaces the first
over : (x : BodyState) (v w v' w' : Vec3) → store_velocities (store_velocities x v w) v' w' ≡ store_velocities x v' w'
unfolding store_velocities is_dynamic
over x v w v' w' = by (is_dynamic x) refl
  where
    by : (b : Bool) → is_dynamic x ≡ b → store_velocities (cond b (with_velocities x v w) x) v' w' ≡ store_velocities x v' w'
    by true e = rw e
    by false e = refl

over_at : (s : List BodyState) (m k : ℕ) (d : BodyState) (v w v' w' : Vec3)
    → store_velocities (get_or (set s m (store_velocities (get_or s m d) v w)) k d) v' w' ≡ store_velocities (get_or s k d) v' w'
over_at [] m k d v w v' w' = refl
over_at (x ∷ s) zero zero d v w v' w' = over x v w v' w'
over_at (x ∷ s) zero (suc k) d v w v' w' = refl
over_at (x ∷ s) (suc m) zero d v w v' w' = refl
over_at (x ∷ s) (suc m) (suc k) d v w v' w' = over_at s m k d v w v' w'

-- what is stored at B is the same, whether B was read before A was stored or after
pub read_first : (s : List BodyState) (i j : ℤ) (v w v' w' : Vec3) → store_velocities (state_at s j) v' w' ≡ store_velocities (state_at (store s i v w) j) v' w'
unfolding store
read_first s (pos m) (pos k) v w v' w' = sym (over_at s m k identity_body_state v w v' w')
read_first s (pos m) (negsuc k) v w v' w' = refl
read_first s (negsuc m) j v w v' w' = refl

-- ---- the two states at the end

-- the identity state is not dynamic
stored_at : (s : List BodyState) (i : ℤ) (v w : Vec3) → ¬ (OutOf (length s) i) → state_at (store s i v w) i ≡ store_velocities (state_at s i) v w
unfolding store store_velocities is_dynamic
stored_at s (pos k) v w h = get_or-set_same s k _ identity_body_state (lt_of_not-le h)
stored_at s (negsuc k) v w h = refl

apart : (s : List BodyState) (i j : ℤ) (v w : Vec3) → one_body i j ≡ false → state_at (store s j v w) i ≡ state_at s i
unfolding store
apart s (pos m) (pos n) v w e = elsewhere s n m v w (λ p. eqb-false m n e (sym p))
apart s (pos m) (negsuc n) v w e = refl
apart s (negsuc m) j v w e = refl

one_index : (i j : ℤ) → one_body i j ≡ true → i ≡ j
one_index (pos m) (pos n) e = ap pos (eqb-true m n e)
one_index (pos m) (negsuc n) e = absurd (false≢true e)
one_index (negsuc m) j e = absurd (false≢true e)

module _ (s : List BodyState) (i j : ℤ) (v : Velocities) (h : ¬ (OutOf (length s) i)) (g : ¬ (OutOf (length s) j)) where
  abbrev one : List BodyState
  one = store s i v.v_a v.w_a

  abbrev both : List BodyState
  both = store one j v.v_b v.w_b

  -- at B there is what was stored for B, one body or two
  pub at_b : state_at both j ≡ store_velocities (state_at s j) v.v_b v.w_b
  at_b =
      stored_at one j v.v_b v.w_b (rw (store_long s i v.v_a v.w_a) g)
      ∙ sym (read_first s i j v.v_a v.w_a v.v_b v.w_b)

  pub pair_at : state_pair (state_at both i) (state_at both j) ≡ store_pair (state_at s i) (state_at s j) (one_body i j) v
  unfolding store_pair
  pair_at = by (one_body i j) refl
    where
      by : (b : Bool) → one_body i j ≡ b → state_pair (state_at both i) (state_at both j) ≡ store_pair (state_at s i) (state_at s j) b v
      by true e = ap₂ state_pair (ap (state_at both) (one_index i j e) ∙ at_b) at_b
      by false e = ap₂ state_pair (apart one i j v.v_b v.w_b e ∙ stored_at s i v.v_a v.w_a h) at_b
