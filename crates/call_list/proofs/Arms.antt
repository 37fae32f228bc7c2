-- What the arms of the match in the run's loop leave: each works the stage of the joint in the call's slot. Assumes nothing.
use mathlib.Core.Path.{◌≡◌, refl, sym, ap, ◌∙◌}
use mathlib.Core.Logic.{◌⊎◌, ⊎_elim, ◌≢◌}
use mathlib.Core.Bool.{Bool, true, false, cond}
use mathlib.Core.List.{List}
use Prim.Native.Nat.{ℕ, ◌+◌, ◌≤◌, ◌<◌}
use lib.Dec.{eqb, ltb}
use lib.ListN.{get_or, set}
use lib.Seq.{set-get_or}
use borrow.Author.Tests.{eq-eqb, ne_eqb}
use Rattle.solver.specs.declared.StepContext.{StepContext}
use Rattle.records.specs.declared.body.BodyState.{BodyState}
use Rattle.records.specs.declared.joint.JointUnion.{JointUnion}
use Rattle.records.specs.declared.joint.JointUnion.TheVariants.{Other}
use Rattle.records.specs.declared.joint.JointSim.{JointSim}
use Rattle.constraint.specs.declared.velocity.Velocities.{Velocities}
use Rattle.constraint.specs.Answer.{WarmStartedAnswer}
use Rattle.constraint.specs.Answer.{SolvedAnswer}
use Rattle.constraint.specs.Velocity.{velocities_of}
use Rattle.constraint.specs.Answer.{no_report}
use Rattle.joint.specs.Stage.{Staged, staged, of_warm_start, of_solve, warm_start_as, warm_start_joint, solve_as, solve_joint, stage_joint}
use Rattle.joint.specs.Stage.{warm_start_of, solve_of}
use Rattle.joint.proofs.Stages.{warm_start_of_lem, solve_of_lem, warm_start_joint_lem}
use Rattle.call_list.proofs.StageCodes.{stage_code, warm_code, solve_code, no_code}

-- the stage of the joint that a call reads; past the last slot nothing is worked
abbrev pub stage_in : ℕ → JointSim → StepContext → BodyState → BodyState → ℕ → Staged
stage_in slot joint context a b stage = cond (ltb slot 32) (stage_joint joint context a b stage) (staged joint (velocities_of a b) no_report)

-- an arm leaves the joints with that of the stage r stored, and the velocities of r
pub record ArmWorked (js : List JointSim) (at : ℕ) (r : Staged) (next : List JointSim) (v : Velocities) : Type 0 where
  pub stored : next ≡ set js at r.joint
  pub moved : v ≡ r.velocities

module _ (js : List JointSim) (at : ℕ) (d : JointSim) (context : StepContext) (a b : BodyState) (slot stage c : ℕ) (next : List JointSim) (v : Velocities)
    (coded : c ≡ stage_code slot (get_or js at d).union_ stage) where
  abbrev j : JointSim
  j = get_or js at d

  -- the stage of the joint, whichever kind it is
  abbrev pub its_stage : Staged
  its_stage = stage_in slot j context a b stage

  -- where the joint is left as it was
  unmoved : (w : Staged) → w ≡ its_stage → w.joint ≡ j → next ≡ js → v ≡ w.velocities → ArmWorked js at its_stage next v
  unmoved w same kept n m =
      record {
        stored = n ∙ sym (set-get_or js at d) ∙ ap (set js at) (sym kept ∙ ap (λ x. x.joint) same);
        moved = m ∙ ap (λ x. x.velocities) same;
      }

  warm_stage : ltb slot 32 ≡ true → stage ≡ 0 → of_warm_start (warm_start_joint j a b) ≡ its_stage
  unfolding stage_joint
  warm_stage f o = rw (f, eq-eqb stage 0 o)

  solve_stage : ltb slot 32 ≡ true → stage ≢ 0 → of_solve (solve_joint j context a b (eqb stage 1)) ≡ its_stage
  unfolding stage_joint
  solve_stage f o = rw (f, ne_eqb stage 0 o)

  -- in the arm of a kind's warm start
  pub worked_warm : (k : ℕ) (r : WarmStartedAnswer) → c ≡ k → k < 3 → r ≡ warm_start_of k j a b → next ≡ js → v ≡ r.velocities
      → ArmWorked js at its_stage next v
  worked_warm k r f low g n m =
      let of = warm_code slot j.union_ stage k (sym coded ∙ f) low in
      unmoved (of_warm_start (warm_start_joint j a b)) (warm_stage of.0 of.2) (warm_start_joint_lem j a b) n
      (m ∙ ap (λ x. x.velocities) (g ∙ warm_start_of_lem k j a b of.1 low))

  -- in the arm of a kind's solve
  pub worked_solve : (k : ℕ) (r : SolvedAnswer) → c ≡ k + 3 → k < 3 → r ≡ solve_of k j context a b (eqb stage 1) → next ≡ set js at r.joint → v ≡ r.velocities
      → ArmWorked js at its_stage next v
  worked_solve k r f low g n m =
      let of = solve_code slot j.union_ stage k (sym coded ∙ f) low in
      let is : of_solve r ≡ its_stage = ap of_solve (g ∙ solve_of_lem k j a b of.1 low context (eqb stage 1)) ∙ solve_stage of.0 of.2 in
      record { stored = n ∙ ap (λ x. set js at x.joint) is; moved = m ∙ ap (λ x. x.velocities) is }

  -- the empty case is refused by every stage
  empty_case : (u : JointUnion) → u ≡ Other
      → staged j (velocities_of a b) no_report ≡ cond (eqb stage 0) (of_warm_start (warm_start_as u j a b)) (of_solve (solve_as u j context a b (eqb stage 1)))
  unfolding warm_start_as solve_as
  empty_case u e = rw e (by (eqb stage 0))
    where
      by : (w : Bool) → staged j (velocities_of a b) no_report ≡ cond w (of_warm_start (warm_start_as Other j a b))
          (of_solve (solve_as Other j context a b (eqb stage 1)))
      by true = refl
      by false = refl

  unworked : (ltb slot 32 ≡ false) ⊎ (j.union_ ≡ Other) → staged j (velocities_of a b) no_report ≡ its_stage
  unfolding stage_joint
  unworked = ⊎_elim (λ past. rw past) (λ e. by (ltb slot 32) e)
    where
      by : (s : Bool) → j.union_ ≡ Other → staged j (velocities_of a b) no_report ≡ cond s (stage_joint j context a b stage)
          (staged j (velocities_of a b) no_report)
      by true e = empty_case j.union_ e
      by false e = refl

  -- in the arm of no kind nothing is worked
  pub worked_none : 6 ≤ c → next ≡ js → v ≡ velocities_of a b → ArmWorked js at its_stage next v
  worked_none h n m = unmoved (staged j (velocities_of a b) no_report) (unworked (no_code slot j.union_ stage (rw coded at h))) refl n m
