-- A direct call is worked, or refused. Assumes nothing.
use mathlib.Core.Path.{◌≡◌, refl, sym}
use mathlib.Core.Logic.{◌≢◌}
use mathlib.Core.Bool.{Bool, true, false, cond}
use mathlib.Core.List.{List}
use Prim.Native.Nat.{ℕ}
use lib.Dec.{eqb}
use lib.ListN.{length}
use borrow.Author.Tests.{eqb-true, eqb-false}
use Rattle.records.specs.declared.body.BodyState.{BodyState}
use Rattle.records.specs.declared.joint.JointSim.{JointSim}
use Rattle.direct.specs.Direct.{StageCall}
use Rattle.direct.specs.Direct.{cause, Outcome, refused, done, stage_at, direct_call}

module _ (call : StageCall) (joint : JointSim) (states : List BodyState) where
  abbrev pub its_cause : ℕ
  its_cause = cause call.kind joint.union_ (length states)

  abbrev its_work : Outcome
  its_work = done joint states (stage_at call joint states)

  abbrev its_refusal : Outcome
  its_refusal = refused its_cause joint states

  pub by_outcome : (P : Outcome → Type 0) → (its_cause ≡ 0 → P its_work) → (its_cause ≢ 0 → P its_refusal) → P (direct_call call joint states)
  unfolding direct_call
  by_outcome P worked stopped = by (eqb its_cause 0) refl
    where
      by : (b : Bool) → eqb its_cause 0 ≡ b → P (cond b its_work its_refusal)
      by true e = worked (eqb-true its_cause 0 e)
      by false e = stopped (eqb-false its_cause 0 e)

  pub worked_is : its_cause ≡ 0 → direct_call call joint states ≡ its_work
  worked_is e = by_outcome (λ o. o ≡ its_work) (λ z. refl) (λ ne. absurd (ne e))

  pub refused_is : its_cause ≢ 0 → direct_call call joint states ≡ its_refusal
  refused_is ne = by_outcome (λ o. o ≡ its_refusal) (λ e. absurd (ne e)) (λ n. refl)

  pub number_is : (direct_call call joint states).answer.number ≡ its_cause
  number_is = by_outcome (λ o. o.answer.number ≡ its_cause) sym (λ ne. refl)

  pub place_is : (direct_call call joint states).answer.place ≡ 0
  place_is = by_outcome (λ o. o.answer.place ≡ 0) (λ e. refl) (λ ne. refl)
