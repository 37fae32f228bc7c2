-- The two examples of specs/Claims.antt, computed. Assumes nothing.
use mathlib.Core.Path.{◌≡◌, refl, sym, ap, ◌∙◌, subst}
use mathlib.Core.Logic.{◌⊎◌, inl, inr, ◌≢◌}
use mathlib.Core.Bool.{Bool, true, false, true≢false, false≢true}
use mathlib.Core.List.{[]}
use Prim.Native.Nat.{ℕ, zero, suc, ◌+◌}
use native.Mathlib.Omega.{arith}
use lib.Dec.{eqb}
use lib.Ieee as Ieee
use lib.IntN.{pos}
use lib.ListN.{get_or, replicate}
use borrow.Author.Tests.{eqb-true}
use Rattle.math_functions.specs.Float.{two}
use Rattle.math_functions.specs.Scalar as Scalar
use Rattle.math_functions.specs.Vector as Vector
use Rattle.math_functions.specs.Quat as Quat
use Rattle.math_functions.specs.Matrix as Matrix
use Rattle.records.specs.declared.joint.JointUnion.{JointUnion}
use Rattle.records.specs.declared.joint.JointUnion.TheVariants.{Other}
use Rattle.records.specs.Body as Body
use Rattle.records.specs.Body.{null_index}
use Rattle.constraint.specs.Velocity as Velocity
use Rattle.constraint.specs.Soft as Soft
use Rattle.constraint.specs.Rotation as Rotation
use Rattle.constraint.specs.Angular as Angular
use Rattle.constraint.specs.Point as Point
use Rattle.weld.specs.Weld as Weld
use Rattle.joint.specs.Stage as Stage
use Rattle.scene.proofs.Order.{same_answer}
use Rattle.scene.proofs.Changes.{pos_of}
use Rattle.records.specs.Joint.{unused_joint}
use Rattle.joint.specs.Index.{index_a, index_b}
use Rattle.scene.specs.Scene.{body_at, Dynamic, Names, ShareDynamic, store}
use Rattle.scene.specs.Calls.{Call, calls, keep_if, only_of}
use Rattle.scene.specs.Plain.{cause, early_cause, verdict, Accepted, step, same_velocities, is_still, plain_run}
use Rattle.scene.specs.Chain.{four, chain, first_then_second, second_then_first}
use Rattle.scene.specs.Claims.{end_x, Differ, Agree}

-- ---- what both have in common

accepted_first : (flags : ℕ) → Accepted (chain flags) first_then_second
unfolding chain verdict early_cause cause
accepted_first flags = refl

accepted_second : (flags : ℕ) → Accepted (chain flags) second_then_first
unfolding chain verdict early_cause cause
accepted_second flags = refl

either_order : (a b : Bool) (c d : Call) → (a ≡ true → b ≡ true → ⊥) → keep_if a c (keep_if b d []) ≡ keep_if b d (keep_if a c [])
either_order true true c d h = absurd (h refl refl)
either_order true false c d h = refl
either_order false true c d h = refl
either_order false false c d h = refl

each_alike : (j : ℕ) → only_of j (calls first_then_second) ≡ only_of j (calls second_then_first)
each_alike j = either_order (eqb 0 j) (eqb 1 j) _ _ (λ p q. omega (arith, eqb-true 0 j p, eqb-true 1 j q))

-- where the first body ends with a dynamic one in the middle, in both orders; and where the first and the last end with one that is not dynamic
ends : (end_x 0x1000 first_then_second 0 ≡ two) × (end_x 0x1000 second_then_first 0 ≡ four)
    × (end_x 0 first_then_second 0 ≡ two) × (end_x 0 first_then_second 2 ≡ four)
unfolding chain plain_run verdict early_cause cause step store is_still same_velocities Body.is_dynamic Body.store_velocities
    Stage.stage_joint Stage.warm_start_as Stage.solve_as
    Weld.solve_weld_joint Weld.solve_weld Weld.joint_rotation Weld.solve_angular Weld.weld_angular_row Weld.solve_bias Weld.solve_point
    Weld.is_soft
    Velocity.velocities_of Velocity.inv_masses_of Velocity.apply_point Soft.soft_impulse3 Soft.soft_bias_of
    Rotation.flipped_relative_rotation Rotation.relative_rotation Rotation.same_polarity Angular.is_worked
    Point.point_bias Point.point_mass Point.point_cdot_grouped Point.point_row_at Scalar.abs_float
    Vector.add Vector.sub Vector.neg Vector.dot Vector.mul_add Vector.mul_sub Vector.mul_sv Vector.cross
    Quat.rotate_vector Quat.mul_quat Quat.inv_mul_quat Quat.dot_quat Quat.negate_quat
    Matrix.det Matrix.mul_mv Matrix.negate_mat3 Matrix.add_mm Matrix.mul_mm Matrix.solve3 Matrix.skew
    Ieee.of_bits Ieee.neg Ieee.add Ieee.sub Ieee.mul Ieee.div Ieee.lt Ieee.eq
ends = (refl, refl, refl, refl)

-- ---- a dynamic body in the middle

two_is_not_four : two ≢ four
unfolding Ieee.of_bits Ieee.eq
two_is_not_four e = true≢false (ap (λ x. Ieee.eq x two) e)

shared : ShareDynamic (chain 0x1000) 0 1
unfolding chain Body.is_dynamic
shared = (1, inr refl, inl refl, refl)

pub differ : Differ
differ =
    record {
      accepted_one = accepted_first 0x1000;
      accepted_other = accepted_second 0x1000;
      shared = shared;
      each_alike = each_alike;
      one_ends = ends.0;
      other_ends = ends.1;
      not_alike = λ e. two_is_not_four (sym ends.0 ∙ ap (λ r. (body_at r.scene 0).linear_velocity.x) e ∙ ends.1);
    }

-- ---- a body in the middle that is not dynamic

named : Names (chain 0) 0 1 × Names (chain 0) 1 1
unfolding chain
named = (inr refl, inl refl)

not_dynamic : ¬ (Dynamic (chain 0) 1)
unfolding chain Body.is_dynamic
not_dynamic e = false≢true e

-- of the dynamic bodies joint 0 names 0 and joint 1 names 2, and no other joint names a body: so no two share one
past_end : (n j : ℕ) → get_or (replicate n unused_joint) j unused_joint ≡ unused_joint
past_end zero j = refl
past_end (suc n) zero = refl
past_end (suc n) (suc j) = past_end n j

no_body : (u : JointUnion) (n : ℕ) → u ≡ Other → (index_a u ≡ pos n) ⊎ (index_b u ≡ pos n) → ⊥
no_body u n e (inl p) = let q : null_index ≡ pos n = sym (ap index_a e) ∙ p in let z : ◌≡◌ {A = ℕ} 0 1 = cc in omega arith
no_body u n e (inr p) = let q : null_index ≡ pos n = sym (ap index_b e) ∙ p in let z : ◌≡◌ {A = ℕ} 0 1 = cc in omega arith

middle : (n : ℕ) → pos 1 ≡ pos n → ¬ (Dynamic (chain 0) n)
middle n e d = not_dynamic (subst (λ m. Dynamic (chain 0) m) (sym (pos_of 1 n e)) d)

named_by : (j n : ℕ) → Names (chain 0) j n → Dynamic (chain 0) n → n ≡ j + j
unfolding chain
named_by zero n (inl e) d = sym (pos_of 0 n e)
named_by zero n (inr e) d = absurd (middle n e d)
named_by (suc zero) n (inl e) d = absurd (middle n e d)
named_by (suc zero) n (inr e) d = sym (pos_of 2 n e)
named_by (suc (suc j)) n p d = absurd (no_body _ n (ap (λ x. x.union_) (past_end 30 j)) p)

alike : plain_run (chain 0) first_then_second ≡ plain_run (chain 0) second_then_first
alike =
    same_answer (chain 0) first_then_second second_then_first (accepted_first 0) (accepted_second 0) each_alike
    (λ j k ne shared. absurd (ne (omega (arith, named_by j shared.0 shared.1 shared.3, named_by k shared.0 shared.2 shared.3))))

pub agree : Agree
agree =
    record {
      accepted_one = accepted_first 0;
      accepted_other = accepted_second 0;
      shared = named;
      not_dynamic = not_dynamic;
      first_moved = ends.2;
      last_moved = ends.3;
      alike = alike;
    }
