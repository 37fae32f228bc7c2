-- The table of causes by which a list is checked: whether a joint can be called is the same for each of its calls. Definitions only. Assumes nothing.
use Rattle.std.specs.Prelude.{List, map, ℕ}
use Rattle.scene.specs.declared.Scene.{Scene}
use Rattle.scene.specs.Plain.{joint_cause}

-- for each joint the first of the causes 1, 2, 3, or 0
unfoldable pub joint_causes : Scene → List ℕ
joint_causes s = map (λ joint. joint_cause s.body_count joint.union_) s.joints
