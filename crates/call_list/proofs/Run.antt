-- Laws on a run. Assumes nothing.
use mathlib.Core.Path.{◌≡◌, sym, ap, ◌∙◌}
use mathlib.Core.Logic.{◌≢◌}
use mathlib.Core.Bool.{Bool}
use mathlib.Core.List.{List}
use Prim.Native.Nat.{ℕ}
use Rattle.scene.specs.declared.Scene.{Scene}
use Rattle.scene.specs.Plain.{Verdict}
use Rattle.scene.specs.Calls.{calls}
use Rattle.scene.specs.Plain.{verdict, Accepted, run_calls, same_below, is_still, done, refused, plain_run}
use Rattle.scene.proofs.Accepted.{run_accepted, run_refused}

pub refused_is : (s : Scene) (l : List ℕ) (v : Verdict) → v ≡ verdict s l → v.number ≢ 0 → refused v s ≡ plain_run s l
refused_is s l v e o = ap (λ x. refused x s) e ∙ sym (run_refused s l (λ z. o (ap (λ x. x.number) e ∙ z)))

pub done_is : (s t : Scene) (l : List ℕ) (b : Bool) → Accepted s l → t ≡ run_calls (calls l) s → b ≡ same_below s.body_count s.bodies t.bodies
    → record { number = 0; place = 0; still = b; scene = t } ≡ plain_run s l
unfolding is_still
done_is s t l b a et eb = ap (λ x. record { number = 0; place = 0; still = x; scene = t }) eb ∙ ap (done s) et ∙ sym (run_accepted s l a)
