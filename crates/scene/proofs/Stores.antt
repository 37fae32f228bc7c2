-- Stores at two indices: what a store leaves of a body, and when two stores may be exchanged. Assumes nothing.
use mathlib.Core.Path.{◌≡◌, refl, sym, ap, ◌∙◌}
use mathlib.Core.Bool.{Bool, true, false, cond, ◌&&◌}
use mathlib.Core.List.{List, map}
use Prim.Native.Nat.{ℕ}
use lib.Dec.{eqb}
use lib.IntN.{ℤ, pos, negsuc}
use lib.ListN.{length, get_or, length-set, get_or-map}
use lib.Seq.{get_or-set_other, set-get_or, set_comm, map-set_same}
use borrow.Author.Tests.{eqb-true, eqb-false}
use Rattle.math_functions.specs.declared.types.Vec3.{Vec3}
use Rattle.math_functions.specs.Types.{vec3_zero}
use Rattle.records.specs.declared.body.BodyState.{BodyState}
use Rattle.records.specs.declared.joint.JointUnion.{JointUnion}
use Rattle.records.specs.Body.{is_dynamic, with_velocities, store_velocities, identity_body_state}
use Rattle.constraint.specs.declared.velocity.Velocities.{Velocities}
use Rattle.joint.specs.Index.{index_a, index_b}
use Rattle.scene.specs.Scene.{state_at, store}
use Rattle.scene.specs.Plain.{store_both}

-- ---- a store at -1, or on a body that is not dynamic, changes nothing
pub store_none : (bs : List BodyState) (n : ℕ) (v w : Vec3) → store bs (negsuc n) v w ≡ bs
unfolding store
store_none bs n v w = refl

store_not : (bs : List BodyState) (n : ℕ) (v w : Vec3) → is_dynamic (get_or bs n identity_body_state) ≡ false → store bs (pos n) v w ≡ bs
unfolding store store_velocities
store_not bs n v w e = rw e (set-get_or bs n identity_body_state)

-- ---- a store keeps the count
pub store_long : (bs : List BodyState) (x : ℤ) (v w : Vec3) → length (store bs x v w) ≡ length bs
unfolding store
store_long bs (pos n) v w = length-set bs n _
store_long bs (negsuc n) v w = refl

-- ---- all of a body but its velocities

abbrev pub rest_of : BodyState → BodyState
rest_of b = with_velocities b vec3_zero vec3_zero

abbrev pub SameRest : List BodyState → List BodyState → Type 0
SameRest bs cs = map rest_of bs ≡ map rest_of cs

pub rest_at : (bs cs : List BodyState) → SameRest bs cs → (n : ℕ) → rest_of (get_or bs n identity_body_state) ≡ rest_of (get_or cs n identity_body_state)
rest_at bs cs e n =
    sym (get_or-map rest_of bs n identity_body_state)
    ∙ ap (λ l. get_or l n (rest_of identity_body_state)) e
    ∙ get_or-map rest_of cs n identity_body_state

rest_dynamic : (b : BodyState) → is_dynamic (rest_of b) ≡ is_dynamic b
unfolding is_dynamic
rest_dynamic b = refl

pub dynamic_at : (bs cs : List BodyState) → SameRest bs cs → (n : ℕ)
    → is_dynamic (get_or bs n identity_body_state) ≡ is_dynamic (get_or cs n identity_body_state)
dynamic_at bs cs e n =
    sym (rest_dynamic (get_or bs n identity_body_state)) ∙ ap is_dynamic (rest_at bs cs e n) ∙ rest_dynamic (get_or cs n identity_body_state)

stored_rest : (b : BodyState) (v w : Vec3) → rest_of (store_velocities b v w) ≡ rest_of b
unfolding store_velocities
stored_rest b v w = by (is_dynamic b)
  where
    by : (d : Bool) → rest_of (cond d (with_velocities b v w) b) ≡ rest_of b
    by true = refl
    by false = refl

pub store_rest : (bs : List BodyState) (x : ℤ) (v w : Vec3) → SameRest (store bs x v w) bs
unfolding store
store_rest bs (pos n) v w = map-set_same rest_of bs n _ identity_body_state (stored_rest (get_or bs n identity_body_state) v w)
store_rest bs (negsuc n) v w = refl

pub both_rest : (bs : List BodyState) (u : JointUnion) (r : Velocities) → SameRest (store_both bs u r) bs
both_rest bs u r = store_rest (store bs (index_a u) r.v_a r.w_a) (index_b u) r.v_b r.w_b ∙ store_rest bs (index_a u) r.v_a r.w_a

-- ---- two indices clash if they name one dynamic body

abbrev pub clash : List BodyState → ℤ → ℤ → Bool
clash bs (pos m) (pos n) = eqb m n && is_dynamic (get_or bs m identity_body_state)
clash bs (pos m) (negsuc n) = false
clash bs (negsuc m) z = false

pub clash_at : (bs cs : List BodyState) → SameRest bs cs → (x y : ℤ) → clash bs x y ≡ clash cs x y
clash_at bs cs e (pos m) (pos n) = ap (λ d. eqb m n && d) (dynamic_at bs cs e m)
clash_at bs cs e (pos m) (negsuc n) = refl
clash_at bs cs e (negsuc m) y = refl

not_dynamic : (b d : Bool) → b ≡ true → b && d ≡ false → d ≡ false
not_dynamic b d e h = rw e at h

-- a store is not seen at another body
pub elsewhere : (bs : List BodyState) (m n : ℕ) (v w : Vec3) → (m ≡ n → ⊥)
    → get_or (store bs (pos m) v w) n identity_body_state ≡ get_or bs n identity_body_state
unfolding store
elsewhere bs m n v w ne = get_or-set_other bs m n _ identity_body_state (λ e. ne (sym e))

-- a store that does not clash is not seen
unseen : (bs : List BodyState) (x y : ℤ) (v w : Vec3) → clash bs x y ≡ false → state_at (store bs x v w) y ≡ state_at bs y
unseen bs (negsuc m) y v w h = ap (λ l. state_at l y) (store_none bs m v w)
unseen bs (pos m) (negsuc n) v w h = refl
unseen bs (pos m) (pos n) v w h = by (eqb m n) refl
  where
    by : (b : Bool) → eqb m n ≡ b → get_or (store bs (pos m) v w) n identity_body_state ≡ get_or bs n identity_body_state
    by true e = ap (λ l. get_or l n identity_body_state) (store_not bs m v w (not_dynamic (eqb m n) _ e h))
    by false e = elsewhere bs m n v w (eqb-false m n e)

-- and may be exchanged with the other store
apart_stores : (bs : List BodyState) (m n : ℕ) (v w v' w' : Vec3) → (m ≡ n → ⊥)
    → store (store bs (pos m) v w) (pos n) v' w' ≡ store (store bs (pos n) v' w') (pos m) v w
unfolding store
apart_stores bs m n v w v' w' ne =
    rw (
      get_or-set_other bs m n (store_velocities (get_or bs m identity_body_state) v w) identity_body_state (λ e. ne (sym e)),
      get_or-set_other bs n m (store_velocities (get_or bs n identity_body_state) v' w') identity_body_state ne,
    )
    (set_comm bs m n _ _ ne)

swap : (bs : List BodyState) (x y : ℤ) (v w v' w' : Vec3) → clash bs x y ≡ false → store (store bs x v w) y v' w' ≡ store (store bs y v' w') x v w
swap bs (negsuc m) y v w v' w' h = ap (λ l. store l y v' w') (store_none bs m v w) ∙ sym (store_none (store bs y v' w') m v w)
swap bs (pos m) (negsuc n) v w v' w' h = store_none (store bs (pos m) v w) n v' w' ∙ ap (λ l. store l (pos m) v w) (sym (store_none bs n v' w'))
swap bs (pos m) (pos n) v w v' w' h = by (eqb m n) refl
  where
    by : (b : Bool) → eqb m n ≡ b → store (store bs (pos m) v w) (pos n) v' w' ≡ store (store bs (pos n) v' w') (pos m) v w
    by true e =
        let still : is_dynamic (get_or bs m identity_body_state) ≡ false = not_dynamic (eqb m n) _ e h in
        let x = store_not bs m v w still in
        let y = store_not bs n v' w' (ap (λ k. is_dynamic (get_or bs k identity_body_state)) (sym (eqb-true m n e)) ∙ still) in
        ap (λ l. store l (pos n) v' w') x ∙ y ∙ sym (ap (λ l. store l (pos m) v w) y ∙ x)
    by false e = apart_stores bs m n v w v' w' (eqb-false m n e)

-- ---- the same of both stores of a call

-- neither index of the joint clashes with y
abbrev pub Clear : List BodyState → JointUnion → ℤ → Type 0
Clear bs u y = (clash bs (index_a u) y ≡ false) × (clash bs (index_b u) y ≡ false)

pub both_unseen : (bs : List BodyState) (u : JointUnion) (r : Velocities) (y : ℤ) → Clear bs u y → state_at (store_both bs u r) y ≡ state_at bs y
both_unseen bs u r y h =
    let one = store bs (index_a u) r.v_a r.w_a in
    let same = store_rest bs (index_a u) r.v_a r.w_a in
    unseen one (index_b u) y r.v_b r.w_b (clash_at one bs same (index_b u) y ∙ h.1) ∙ unseen bs (index_a u) y r.v_a r.w_a h.0

past : (bs : List BodyState) (u : JointUnion) (r : Velocities) (y : ℤ) (v w : Vec3) → Clear bs u y
    → store (store_both bs u r) y v w ≡ store_both (store bs y v w) u r
past bs u r y v w h =
    let one = store bs (index_a u) r.v_a r.w_a in
    let same = store_rest bs (index_a u) r.v_a r.w_a in
    swap one (index_b u) y r.v_b r.w_b v w (clash_at one bs same (index_b u) y ∙ h.1)
    ∙ ap (λ l. store l (index_b u) r.v_b r.w_b) (swap bs (index_a u) y r.v_a r.w_a v w h.0)

pub both_swap : (bs : List BodyState) (u k : JointUnion) (r q : Velocities) → Clear bs u (index_a k) → Clear bs u (index_b k)
    → store_both (store_both bs u r) k q ≡ store_both (store_both bs k q) u r
both_swap bs u k r q ha hb =
    let one = store bs (index_a k) q.v_a q.w_a in
    let same = store_rest bs (index_a k) q.v_a q.w_a in
    ap (λ l. store l (index_b k) q.v_b q.w_b) (past bs u r (index_a k) q.v_a q.w_a ha)
    ∙ past one u r (index_b k) q.v_b q.w_b (clash_at one bs same (index_a u) (index_b k) ∙ hb.0, clash_at one bs same (index_b u) (index_b k) ∙ hb.1)
