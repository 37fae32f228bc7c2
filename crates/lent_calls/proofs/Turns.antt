-- What the calls so far have answered and left, in a loop that makes them one after the other. Assumes nothing.
use Rattle.std.proofs.Common.{◌≡◌, sym, ap, ◌∙◌, subst, ℕ, ◌+◌, ◌<◌, ◌≤◌, min, List, ◌++◌, length, take, drop, add-one, arith}
use Rattle.std.proofs.lemmas.List.{take_min, drop_all, length-take, length-drop, length-append}
use Rattle.records.specs.declared.body.BodyState.{BodyState}
use Rattle.records.specs.declared.joint.JointSim.{JointSim}
use Rattle.direct.specs.Direct.{StageCall}
use Rattle.direct.specs.Direct.{CallAnswer, direct_call, Leaves}
use Rattle.direct.proofs.Proved.{changes}
use Rattle.lent_calls.specs.Lent.{LentAnswer, no_answer, beside, one_more, lent_calls}

drop_min : (k : ℕ) (xs : List BodyState) → drop (min k (length xs)) xs ≡ drop k xs
drop_min k xs = grind (arith, drop_all)

abbrev pub left : CallAnswer → JointSim → List BodyState → LentAnswer
left answer joint states = record { answer = answer; joint = joint; states = states }

-- `made` of `calls` calls on `joint` and `states` have answered and left `out`; the first `n` states are lent to each
pub record Reached (call : StageCall) (joint : JointSim) (states : List BodyState) (body_count calls n made : ℕ) (out : LentAnswer) : Type 0 where
  pub lent : n ≡ min body_count 40
  pub within : made ≤ calls
  pub whole : length out.states ≡ 40
  pub holds : out ≡ lent_calls call joint states body_count made

module _ (call : StageCall) (joint : JointSim) (states : List BodyState) (body_count calls n : ℕ) where
  pub no_call : n ≡ min body_count 40 → length states ≡ 40 → (a : CallAnswer) → a ≡ no_answer
      → Reached call joint states body_count calls n 0 (left a joint states)
  unfolding lent_calls
  no_call lent whole a a-is = record { lent = lent; within = omega arith; whole = whole; holds = ap (λ x. left x joint states) a-is }

  -- one call more, on what the one before it left
  pub turn : {made : ℕ} {out : LentAnswer} → Reached call joint states body_count calls n made out → made < calls
      → (a : CallAnswer) (j : JointSim) (t : List BodyState) → Leaves (direct_call call out.joint (take n out.states)) a j t
      → Reached call joint states body_count calls n (made + 1) (left a j (t ++ drop n out.states))
  unfolding lent_calls
  turn {made} {out} reached more a j t leaves =
      let n-is : n ≡ min body_count (length out.states) = reached.lent ∙ ap (min body_count) (sym reached.whole) in
      let lent : take n out.states ≡ take body_count out.states = ap (λ m. take m out.states) n-is ∙ take_min body_count out.states in
      let rest : drop n out.states ≡ drop body_count out.states = ap (λ m. drop m out.states) n-is ∙ drop_min body_count out.states in
      let long : length t ≡ length (take n out.states) = ap length leaves.2 ∙ (changes call out.joint (take n out.states)).as_many in
      let called : left a j (t ++ drop n out.states) ≡ beside (drop n out.states) (direct_call call out.joint (take n out.states)) =
      (λ i. left (leaves.0 i) (leaves.1 i) (leaves.2 i ++ drop n out.states)) in
      record {
        lent = reached.lent;
        within = omega arith;
        whole = length-append t (drop n out.states) ∙ omega (arith, long, length-take n out.states, length-drop n out.states, reached.whole);
        holds = called ∙ (λ i. beside (rest i) (direct_call call out.joint (lent i)))
            ∙ subst (λ m. one_more call body_count out ≡ lent_calls call joint states body_count m) (sym (add-one made))
            (ap (one_more call body_count) reached.holds);
      }
