-- `check_joints` equals its definition, element by element. Assumes nothing.
use Rattle.std.proofs.Common.{◌≡◌, length, get_or, rules}
use Rattle.std.proofs.lemmas.List.{get_or_default}
use Rattle.records.specs.declared.joint.JointSim.{JointSim}
use Rattle.records.specs.Joint.{unused_joint}
use Rattle.records.specs.Refusal.{tested}
use Rattle.scene.specs.Plain.{joint_cause}
use Rattle.list_check.proofs.Elements.{made_at}
use Rattle.list_check.proofs.Lists.{causes_all}
use Rattle.list_check.proofs.check_joints.Goals as goal

pub returns : goal.returns
returns c =
    let s = c.args.scene in
    let long : length s.joints ≡ 32 = search rules in
    causes_all s c.from_fn.result unused_joint long c.from_fn.ensures.items.long
    (λ k e below. made_at _ _ (λ k r. (d : JointSim) → tested r ≡ joint_cause s.body_count (get_or s.joints k d).union_) 32
    (λ i y q h called. (λ d. search (rules, get_or_default), search rules)) _ c.from_fn.ensures.items k e below unused_joint)
