-- One call answers and leaves what the direct call itself does of the states that are lent to it, and the others stay. Assumes nothing.
use mathlib.Core.Path.{◌≡◌, ap, ◌∙◌, refl}
use mathlib.Core.List.{List, ◌++◌}
use lib.ListN.{length, take}
use lib.Seq.{take_at, drop_at}
use Rattle.records.specs.declared.body.BodyState.{BodyState}
use Rattle.records.specs.declared.joint.JointSim.{JointSim}
use Rattle.direct.specs.Direct.{StageCall}
use Rattle.direct.specs.Direct.{direct_call}
use Rattle.lent_calls.specs.Lent.{beside, lent_calls}

pub one_call : (call : StageCall) (joint : JointSim) (lent rest : List BodyState)
    → lent_calls call joint (lent ++ rest) (length lent) 1 ≡ beside rest (direct_call call joint lent)
unfolding lent_calls
one_call call joint lent rest =
    ap (λ (l : List BodyState). beside l (direct_call call joint (take (length lent) (lent ++ rest)))) (drop_at lent rest (length lent) refl)
    ∙ ap (λ (l : List BodyState). beside rest (direct_call call joint l)) (take_at lent rest (length lent) refl)
