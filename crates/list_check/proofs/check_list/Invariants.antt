-- No call before the call `place` has a cause.
use Rattle.std.proofs.Common.{◌≡◌, ◌*◌, drop}
use Rattle.scene.specs.Calls.{calls}
use Rattle.scene.specs.Plain.{first_cause}
use Rattle.list_check.proofs.check_list.Given as goal

abbrev pub invariant-loop-place : goal.invariant-loop-place
invariant-loop-place l = first_cause l.scene l.place (calls (drop (2 * l.place) l.list)) ≡ first_cause l.scene 0 (calls l.list)
