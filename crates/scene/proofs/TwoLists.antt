-- A list put together of two: its calls, its tests and its run. Assumes nothing.
use mathlib.Core.Path.{◌≡◌, refl, sym, ap, ◌∙◌}
use mathlib.Core.Logic.{inl, inr, ⊎_elim}
use mathlib.Core.List.{List, [], ◌∷◌, ◌++◌}
use Prim.Native.Nat.{ℕ, ◌+◌, ◌%◌, ◌≤◌, ◌<◌}
use native.Mathlib.Omega.{arith}
use lib.ListN.{length, length-append}
use Rattle.scene.specs.declared.Scene.{Scene}
use Rattle.scene.specs.Calls.{Call, call, calls, Every}
use Rattle.scene.specs.Plain.{step, cause, verdict, Accepted, run_calls, plain_run}
use Rattle.scene.specs.Claims.{Cause6, Cause7, tests, OneAfterOther}
use Rattle.scene.proofs.Framed.{Framed, framed, framed_start, cause_kept}
use Rattle.scene.proofs.Accepted.{verdict_answers, answers_none, by_verdict, run_accepted, no_causes, causes_none}

-- ---- calls

pub runs_chained : (s : Scene) (a b : List Call) → run_calls (a ++ b) s ≡ run_calls b (run_calls a s)
runs_chained s [] b = refl
runs_chained s (c ∷ a) b = runs_chained (step c s) a b

-- no call is cut in two
calls_chained : (l₁ l₂ : List ℕ) → length l₁ % 2 ≡ 0 → calls (l₁ ++ l₂) ≡ calls l₁ ++ calls l₂
calls_chained [] l₂ e = refl
calls_chained (x ∷ []) l₂ e = absurd (omega (arith, e))
calls_chained (x ∷ y ∷ l) l₂ e = ap (λ k. call x y ∷ k) (calls_chained l l₂ (omega (arith, e)))

module _ (P : Call → Type 0) where
  every_split : (a b : List Call) → Every P (a ++ b) → Every P a × Every P b
  every_split [] b h = (tt, h)
  every_split (c ∷ a) b h = let r = every_split a b h.1 in ((h.0, r.0), r.1)

  every_join : (a b : List Call) → Every P a → Every P b → Every P (a ++ b)
  every_join [] b g h = h
  every_join (c ∷ a) b g h = (g.0, every_join a b g.1 h)

  every_so : {Q : Call → Type 0} → ((c : Call) → P c → Q c) → (l : List Call) → Every P l → Every Q l
  every_so f [] h = tt
  every_so f (c ∷ l) h = (f c h.0, every_so f l h.1)

-- ---- what an accepted list is

record Fine (s : Scene) (l : List ℕ) : Type 0 where
  few_bodies : s.body_count ≤ 32
  few_joints : s.joint_count ≤ 32
  even : length l % 2 ≡ 0
  short : length l ≤ 8192
  no_cause : Every (λ c. cause s c ≡ 0) (calls l)

fine_of : (s : Scene) (l : List ℕ) → Accepted s l → Fine s l
fine_of s l e =
    let h = ((verdict_answers s l).none e).0 in
    let bodies : ¬ (32 < s.body_count) = λ g. h.0 (inl g) in
    let joints : ¬ (32 < s.joint_count) = λ g. h.0 (inr g) in
    let odd : ¬ (length l % 2 ≡ 1) = λ g. h.1.0 (inl g) in
    let long : ¬ (8192 < length l) = λ g. h.1.0 (inr g) in
    record {
      few_bodies = omega (arith, bodies);
      few_joints = omega (arith, joints);
      even = omega (arith, odd);
      short = omega (arith, long);
      no_cause = no_causes s 0 (calls l) h.1.1;
    }

not_6 : (s : Scene) → s.body_count ≤ 32 → s.joint_count ≤ 32 → ¬ (Cause6 s)
not_6 s b j = ⊎_elim (λ g. omega (arith, g, b)) (λ g. omega (arith, g, j))

not_7 : (l : List ℕ) → length l % 2 ≡ 0 → length l ≤ 8192 → ¬ (Cause7 l)
not_7 l e m = ⊎_elim (λ g. omega (arith, g, e)) (λ g. omega (arith, g, m))

of_fine : (s : Scene) (l : List ℕ) → Fine s l → Accepted s l
of_fine s l f =
    (answers_none (tests s l) (verdict s l) (verdict_answers s l)).1
    (not_6 s f.few_bodies f.few_joints, (not_7 l f.even f.short, causes_none s 0 (calls l) f.no_cause))

-- ---- two lists

module _ (s : Scene) (l₁ l₂ : List ℕ) (even : length l₁ % 2 ≡ 0) where
  abbrev t : Scene
  t = (plain_run s l₁).scene

  -- whatever the first list, what it left is as it was fed
  left : Framed s t
  left = by_verdict s l₁ (λ r. Framed s r.scene) (λ e. framed s (calls l₁)) (λ ne. framed_start s)

  long : length (l₁ ++ l₂) ≡ length l₁ + length l₂
  long = length-append l₁ l₂

  split : Accepted s (l₁ ++ l₂) → (length l₁ + length l₂ ≤ 8192) × Accepted s l₁ × Accepted t l₂
  split e =
      let f = fine_of s (l₁ ++ l₂) e in
      let each = every_split (λ c. cause s c ≡ 0) (calls l₁) (calls l₂) (rw (calls_chained l₁ l₂ even) at f.no_cause) in
      let short = f.short in
      let whole = f.even in
      let first : Fine s l₁ =
      record { few_bodies = f.few_bodies; few_joints = f.few_joints; even = even; short = omega (arith, short, long); no_cause = each.0 } in
      let second : Fine t l₂ =
      record {
        few_bodies = rw left.body_count f.few_bodies;
        few_joints = rw left.joint_count f.few_joints;
        even = omega (arith, whole, long, even);
        short = omega (arith, short, long);
        no_cause = every_so (λ c. cause s c ≡ 0) (λ c z. cause_kept s t left c ∙ z) (calls l₂) each.1;
      } in
      (omega (arith, short, long), of_fine s l₁ first, of_fine t l₂ second)

  join : (length l₁ + length l₂ ≤ 8192) × Accepted s l₁ × Accepted t l₂ → Accepted s (l₁ ++ l₂)
  join h =
      let short = h.0 in
      let first = fine_of s l₁ h.1 in
      let second = fine_of t l₂ h.2 in
      let rest = second.even in
      of_fine s (l₁ ++ l₂) record {
        few_bodies = first.few_bodies;
        few_joints = first.few_joints;
        even = omega (arith, rest, long, even);
        short = omega (arith, short, long);
        no_cause =
            rw (calls_chained l₁ l₂ even)
            (every_join (λ c. cause s c ≡ 0) (calls l₁) (calls l₂) first.no_cause
            (every_so (λ c. cause t c ≡ 0) (λ c z. sym (cause_kept s t left c) ∙ z) (calls l₂) second.no_cause));
      }

  scene_of : Accepted s (l₁ ++ l₂) → (plain_run s (l₁ ++ l₂)).scene ≡ (plain_run t l₂).scene
  scene_of e =
      let h = split e in
      ap (λ r. r.scene) (run_accepted s (l₁ ++ l₂) e)
      ∙ ap (λ k. run_calls k s) (calls_chained l₁ l₂ even)
      ∙ runs_chained s (calls l₁) (calls l₂)
      ∙ sym (ap (λ r. run_calls (calls l₂) r.scene) (run_accepted s l₁ h.1))
      ∙ sym (ap (λ r. r.scene) (run_accepted t l₂ h.2))

  pub one_after_other : OneAfterOther s l₁ l₂
  one_after_other = record { accepted = (split, join); scene = scene_of }
