-- Laws on single elements of the arrays: a body's position, what is read and stored there, filling an array, and the first elements of one. Assumes nothing.
use mathlib.Core.Path.{◌≡◌, sym, ap, ◌∙◌, refl}
use mathlib.Core.Bool.{Bool, true, false, cond}
use mathlib.Core.List.{List, [], ◌∷◌, ◌++◌, append_assoc}
use Prim.Native.Nat.{ℕ, suc, ◌+◌, ◌≤◌, ◌<◌}
use native.Mathlib.Numerals.{add-one}
use native.Mathlib.Omega.{arith}
use lib.Dec.{ltb}
use lib.IntN.{ℤ, pos, negsuc}
use lib.ListN.{length, get_or, set, take, drop, replicate, get_or-append, get_or-eq_default}
use lib.Seq.{set_out, set_at, set-append_left, take_all, take-suc, drop-cons, get_or_at, length-take-le}
use borrow.Author.Tests.{lt-ltb, ltb-true, ltb-false}
use Rattle.math_functions.specs.declared.types.Vec3.{Vec3}
use Rattle.records.specs.declared.body.BodyState.{BodyState}
use Rattle.records.specs.Body.{is_dynamic, store_velocities, identity_body_state}
use Rattle.scene.specs.Scene.{state_at, store}
use Rattle.scene.proofs.Stores as Stores
use Rattle.scene.proofs.Stores.{store_none}
use Rattle.std.proofs.lemmas.List.{get_or_default, get_or-take, ext_get_or}
use Rattle.call_list.specs.Positions.{body_position, joint_position, with_identity}

-- ---- positions

pub joint_position_in : (slot : ℕ) → slot < 32 → joint_position slot ≡ slot
unfolding joint_position
joint_position_in slot h = rw (lt-ltb slot 32 h)

last : (us : List BodyState) → length us ≡ 32 → (d : BodyState) → get_or (with_identity us) 32 d ≡ identity_body_state
unfolding with_identity
last us long d = get_or_at us identity_body_state [] d 32 long

inside : (us : List BodyState) (n : ℕ) (d : BodyState) → length us ≡ 32 → n < 32 → get_or (with_identity us) n d ≡ get_or us n identity_body_state
unfolding with_identity
inside us n d long h = get_or-append us (identity_body_state ∷ []) d n (rw long h) ∙ get_or_default us n d identity_body_state (rw long h)

-- what stands at an index's position is the state at the index
pub seen_is : (us : List BodyState) → length us ≡ 32 → (z : ℤ) (d : BodyState) → get_or (with_identity us) (body_position z) d ≡ state_at us z
seen_is us long (negsuc n) d = last us long d
seen_is us long (pos n) d = by (ltb n 32) refl
  where
    by : (b : Bool) → ltb n 32 ≡ b → get_or (with_identity us) (cond b n 32) d ≡ get_or us n identity_body_state
    by true e = inside us n d long (ltb-true n 32 e)
    by false e =
        let h : 32 ≤ n = ltb-false n 32 e in
        last us long d ∙ sym (get_or-eq_default us identity_body_state {n = n} (omega arith))

identity_stays : (v w : Vec3) → store_velocities identity_body_state v w ≡ identity_body_state
unfolding store_velocities is_dynamic
identity_stays v w = refl

-- a store at the identity state's position changes nothing
stays : (us : List BodyState) → length us ≡ 32 → (y d : BodyState) (v w : Vec3) → y ≡ store_velocities (get_or (with_identity us) 32 d) v w
    → set (with_identity us) 32 y ≡ with_identity us
unfolding with_identity
stays us long y d v w e =
    let g : y ≡ identity_body_state = e ∙ ap (λ x. store_velocities x v w) (last us long d) ∙ identity_stays v w in
    rw g (set_at us identity_body_state [] identity_body_state 32 long)

stored : (us : List BodyState) (n : ℕ) → length us ≡ 32 → n < 32 → (y d : BodyState) (v w : Vec3) → y ≡ store_velocities (get_or (with_identity us) n d) v w
    → set (with_identity us) n y ≡ with_identity (store us (pos n) v w)
unfolding with_identity store
stored us n long h y d v w e =
    let g : y ≡ store_velocities (get_or us n identity_body_state) v w = e ∙ ap (λ x. store_velocities x v w) (inside us n d long h) in
    rw g (set-append_left us (identity_body_state ∷ []) n _ (rw long h))

store_out : (us : List BodyState) (n : ℕ) (v w : Vec3) → length us ≡ 32 → 32 ≤ n → store us (pos n) v w ≡ us
unfolding store
store_out us n v w long h = set_out us n _ (omega arith)

-- a store at an index's position is a store at the index
pub kept_is : (us : List BodyState) → length us ≡ 32 → (z : ℤ) (y d : BodyState) (v w : Vec3)
    → y ≡ store_velocities (get_or (with_identity us) (body_position z) d) v w
    → set (with_identity us) (body_position z) y ≡ with_identity (store us z v w)
kept_is us long (negsuc n) y d v w e = stays us long y d v w e ∙ ap with_identity (sym (store_none us n v w))
kept_is us long (pos n) y d v w e = by (ltb n 32) refl e
  where
    by : (b : Bool) → ltb n 32 ≡ b → y ≡ store_velocities (get_or (with_identity us) (cond b n 32) d) v w
        → set (with_identity us) (cond b n 32) y ≡ with_identity (store us (pos n) v w)
    by true t e = stored us n long (ltb-true n 32 t) y d v w e
    by false t e = stays us long y d v w e ∙ ap with_identity (sym (store_out us n v w long (ltb-false n 32 t)))

-- a store keeps the count
pub store_long : (us : List BodyState) (z : ℤ) (v w : Vec3) → length us ≡ 32 → length (store us z v w) ≡ 32
store_long us z v w h = Stores.store_long us z v w ∙ h

-- ---- filling an array from another, one element after the other, with the identity state after it

pub fill_more {ℓ} : {A : Type ℓ} (bs o w : List A) (k : ℕ) (d : A) → w ≡ take k bs ++ drop k o → k < length bs → k < length o
    → set w k (get_or bs k d) ≡ take (k + 1) bs ++ drop (k + 1) o
fill_more bs o w k d e h g =
    let n : length (take k bs) ≡ k = length-take-le k bs (omega arith) in
    rw (e, add-one k, drop-cons o k d g, take-suc bs k d h)
    (set_at (take k bs) (get_or o k d) (drop (suc k) o) (get_or bs k d) k n ∙ sym (append_assoc (take k bs) (get_or bs k d ∷ []) (drop (suc k) o)))

pub fill_33 : (bs w : List BodyState) (k : ℕ) → length bs ≡ 32 → k ≡ 32 → w ≡ take k bs ++ drop k (replicate 33 identity_body_state) → w ≡ with_identity bs
unfolding with_identity
fill_33 bs w k long e q =
    let n : length bs ≤ 32 = omega arith in
    q ∙ rw e (ap (λ l. l ++ (identity_body_state ∷ [])) (take_all 32 bs n))

-- ---- an array of the first elements of another

pub first_32 : (l bs : List BodyState) → length l ≡ 32 → length bs ≡ 33
    → ((k : ℕ) (e : BodyState) → k < 32 → (d : BodyState) → get_or l k e ≡ get_or bs k d)
    → l ≡ take 32 bs
first_32 l bs long more each =
    let e = identity_body_state in
    ext_get_or e l (take 32 bs) (long ∙ sym (length-take-le 32 bs (omega arith)))
    (λ k h. let low : k < 32 = omega arith in each k e low e ∙ sym (get_or-take 32 bs k e low))
