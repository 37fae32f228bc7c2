-- What direct calls leave of a joint and states that are handed over: the first `body_count` of the states are lent to each call, or all where there are not
-- as many, and each is made on what the one before it left. Definitions only. Assumes nothing.
use Rattle.std.specs.Prelude.{List, ◌++◌, ℕ, zero, suc, take, drop}
use Rattle.std.specs.Borrow.{MutBor}
use Rattle.records.specs.declared.body.BodyState.{BodyState}
use Rattle.records.specs.declared.joint.JointSim.{JointSim}
use Rattle.constraint.specs.Answer.{no_report}
use Rattle.direct.specs.declared.Answer.{Answer}
use Rattle.direct.specs.Direct.{StageCall, CallAnswer, answer_of, answered, Outcome, direct_call, Leaves}
use Rattle.lent_calls.specs.declared.Lent.{Lent}

-- what the last call answered, and what the calls left
pub record LentAnswer : Type 0 where
  pub answer : CallAnswer
  pub joint : JointSim
  pub states : List BodyState

-- that of what the code returns
abbrev pub lent_answer : Lent → LentAnswer
lent_answer r = record { answer = answered r.answer; joint = r.joint; states = r.states }

-- what a call answered and left, beside the states that were not lent, which stay
abbrev pub beside : List BodyState → Outcome → LentAnswer
beside rest out = record { answer = out.answer; joint = out.joint; states = out.states ++ rest }

-- one call more
abbrev pub one_more : StageCall → ℕ → LentAnswer → LentAnswer
one_more call body_count before = beside (drop body_count before.states) (direct_call call before.joint (take body_count before.states))

-- before there is a call: number 0, and no mark
abbrev pub no_answer : CallAnswer
no_answer = answer_of 0 no_report

-- what so many calls answer and leave: the answer is the last one's
unfoldable pub lent_calls : StageCall → JointSim → List BodyState → ℕ → ℕ → LentAnswer
lent_calls call joint states body_count zero = record { answer = no_answer; joint = joint; states = states }
lent_calls call joint states body_count (suc calls) = one_more call body_count (lent_calls call joint states body_count calls)

-- what `post` allows a call of a joint and states to answer and to leave is what the direct call does
abbrev pub Makes : (MutBor JointSim → MutBor (List BodyState) → Answer → MutBor JointSim → MutBor (List BodyState) → Type 0) → StageCall → Type 0
Makes post call =
    (joint : MutBor JointSim) (states : MutBor (List BodyState)) (r : Answer) (joint' : MutBor JointSim) (states' : MutBor (List BodyState))
    → post joint states r joint' states'
    → Leaves (direct_call call joint.now states.now) (answered r) joint'.now states'.now
