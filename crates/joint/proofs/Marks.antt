-- The claims of specs/Claims.antt on the marks, proved, each under its statement's name in small letters. Assumes nothing.
use Rattle.std.specs.Prelude.{Option, Some}
use mathlib.Core.Path.{◌≡◌, refl, ap}
use mathlib.Core.Logic.{◌≢◌}
use mathlib.Core.Bool.{Bool, not, cond}
use Prim.Native.Nat.{ℕ}
use lib.Dec.{eqb}
use lib.IntN.{ℤ}
use Rattle.math_functions.specs.declared.mark.Mark.{Mark}
use Rattle.math_functions.specs.declared.mark.Mark.TheVariants.{FellBack}
use Rattle.math_functions.specs.Float.{lt, threshold}
use Rattle.math_functions.specs.Types.{mat3_zero}
use Rattle.math_functions.specs.Matrix.{passes2, passes3, invert_matrix_mark, solve2_mark}
use Rattle.math_functions.specs.Mark.{no_mark}
use Rattle.math_functions.proofs.Marks.{marks_say, worked_says}
use Rattle.solver.specs.declared.StepContext.{StepContext}
use Rattle.records.specs.declared.body.BodyRecord.{BodyRecord}
use Rattle.records.specs.declared.body.BodyState.{BodyState}
use Rattle.records.specs.declared.joint.JointUnion.{JointUnion}
use Rattle.records.specs.declared.joint.JointUnion.TheVariants.{Revolute, Spherical, Weld, Other}
use Rattle.records.specs.declared.joint.JointBase.{JointBase}
use Rattle.records.specs.declared.joint.JointSim.{JointSim}
use Rattle.records.specs.declared.joint.LimitAngles.{LimitAngles}
use Rattle.records.specs.Joint.{case_of, as_revolute, as_spherical, as_weld, joint_sim, of_kind}
use Rattle.constraint.specs.Answer.{PreparedAnswer}
use Rattle.constraint.specs.Answer.{SolvedAnswer}
use Rattle.constraint.specs.Answer.{no_report}
use Rattle.constraint.specs.Claims.{point_matrix}
use Rattle.constraint.specs.Prepare.{inertia_det}
use Rattle.constraint.proofs.Facts.{always}
use Rattle.revolute.specs.Revolute as R
use Rattle.revolute.specs.Revolute.{prepare_revolute_joint, solve_revolute_joint}
use Rattle.revolute.specs.Claims.{perp_matrix}
use Rattle.spherical.specs.Spherical.{rotation_mass_mark, prepare_spherical_joint, solve_spherical_joint}
use Rattle.weld.specs.Weld.{prepare_weld_joint, solve_weld_joint}
use Rattle.revolute.proofs.Marks as Revolute-marks
use Rattle.spherical.proofs.Marks as Spherical-marks
use Rattle.weld.proofs.Marks as Weld-marks
use Rattle.joint.specs.Prepare.{prepare_as}
use Rattle.joint.specs.Stage.{solve_as}
use Rattle.joint.specs.Claims.{union_with_indices, inertia_sum, mass_of, SolveMarks, PrepareMark, PrepareFellBack, RefusalsHaveNoMarks}
use Rattle.joint.specs.Claims.{MarksRead, MarksWithoutIndicesOrFlags, PrepareMarkReads}

-- ---- what each mark says

pub solve_marks : SolveMarks
unfolding solve_as solve_revolute_joint solve_spherical_joint solve_weld_joint
solve_marks joint context a b use_bias =
    let base = joint.base in
    record {
      revolute = λ r e. rw (e, Revolute-marks.solve_marks base r a b context.h context.inv_h use_bias)
          (record {
            perp = worked_says (not base.fixed_rotation) (passes2 (perp_matrix base r a b)) (Some (solve2_mark (perp_matrix base r a b)))
                (marks_say.solve2 (perp_matrix base r a b));
            point = marks_say.solve3 (point_matrix base r.frame_a r.frame_b a b);
          });
      spherical = λ r e. rw (e, Spherical-marks.solve_marks base r a b context.h context.inv_h use_bias)
          (record { no_perp = refl; point = marks_say.solve3 (point_matrix base r.frame_a r.frame_b a b) });
      weld = λ w e. rw (e, Weld-marks.solve_marks base w a b use_bias)
          (record { no_perp = refl; point = marks_say.solve3 (point_matrix base w.frame_a w.frame_b a b) });
      refused = λ e. rw e;
    }

pub prepare_mark : PrepareMark
unfolding prepare_as prepare_revolute_joint prepare_spherical_joint prepare_weld_joint rotation_mass_mark
prepare_mark joint context body_a body_b =
    let base = joint.base in
    let sum = inertia_sum body_a body_b in
    record {
      revolute = λ r e. rw e;
      spherical = λ r e. rw (e, Spherical-marks.prepare_mark base r context.h context.enable_warm_starting _ body_a body_b)
          (worked_says (not (lt (inertia_det body_a body_b) threshold)) (passes3 sum) (Some (invert_matrix_mark sum)) (marks_say.inverse sum));
      weld = λ w e. rw (e, Weld-marks.prepare_mark base w context.h context.enable_warm_starting _ body_a body_b) (marks_say.inverse sum);
      refused = λ e. rw e;
    }

-- ---- masses and refusals

module _ (joint : JointSim) (context : StepContext) (body_a body_b : BodyRecord) where
  fell_back : (u : JointUnion) → joint.union_ ≡ u
      → (prepare_as u joint context body_a body_b).mass_mark ≡ Some FellBack
      → mass_of (prepare_as u joint context body_a body_b).joint.union_ ≡ Some mat3_zero
  unfolding prepare_as prepare_revolute_joint prepare_spherical_joint prepare_weld_joint
  fell_back (Revolute r) is = rw is (λ e. cc)
  fell_back (Spherical r) is =
      rw is (λ e. ap Some (Spherical-marks.prepare_fell_back joint.base r context.h context.enable_warm_starting _ body_a body_b e))
  fell_back (Weld w) is =
      rw is (λ e. ap Some (Weld-marks.prepare_fell_back joint.base w context.h context.enable_warm_starting _ body_a body_b e))
  fell_back Other is = λ e. cc

pub prepare_fell_back : PrepareFellBack
prepare_fell_back joint context body_a body_b = fell_back joint context body_a body_b joint.union_ refl

-- a refusal has none, and what is worked is no refusal
solve_refusal : {K : Type 0} (found : Option K) (refusal : SolvedAnswer) (work : K → SolvedAnswer) → refusal.report ≡ no_report
    → ((k : K) → (work k).number ≡ 0)
    → (of_kind found refusal work).number ≢ 0 → (of_kind found refusal work).report ≡ no_report
solve_refusal found refusal work is done =
    always (λ (r : SolvedAnswer). r.number ≢ 0 → r.report ≡ no_report) found refusal work (λ ne. is) (λ k ne. absurd (ne (done k)))

prepare_refusal : {K : Type 0} (found : Option K) (refusal : PreparedAnswer) (work : K → PreparedAnswer) → refusal.mass_mark ≡ no_mark
    → ((k : K) → (work k).number ≡ 0) → (of_kind found refusal work).number ≢ 0 → (of_kind found refusal work).mass_mark ≡ no_mark
prepare_refusal found refusal work is done =
    always (λ (r : PreparedAnswer). r.number ≢ 0 → r.mass_mark ≡ no_mark) found refusal work (λ ne. is) (λ k ne. absurd (ne (done k)))

pub refusals_have_no_marks : RefusalsHaveNoMarks
unfolding prepare_revolute_joint prepare_spherical_joint prepare_weld_joint solve_revolute_joint solve_spherical_joint solve_weld_joint
refusals_have_no_marks =
    record {
      solve = λ joint context a b use_bias. record {
        revolute = solve_refusal (as_revolute joint.union_) _ _ refl (λ k. refl);
        spherical = solve_refusal (as_spherical joint.union_) _ _ refl (λ k. refl);
        weld = solve_refusal (as_weld joint.union_) _ _ refl (λ k. refl);
      };
      prepare = λ joint context a b. record {
        revolute = prepare_refusal (as_revolute joint.union_) _ _ refl (λ k. refl);
        spherical = prepare_refusal (as_spherical joint.union_) _ _ refl (λ k. refl);
        weld = prepare_refusal (as_weld joint.union_) _ _ refl (λ k. refl);
      };
    }

-- ---- what they read

module _ (base : JointBase) (angles : LimitAngles) (x y : ℤ) (c d : StepContext) (a b a' b' : BodyState) (use_bias use_bias' : Bool)
    (same-a : a.delta_rotation ≡ a'.delta_rotation) (same-b : b.delta_rotation ≡ b'.delta_rotation) where
  solve_reads : (u : JointUnion)
      → let v = union_with_indices u x y in
      (solve_as v (joint_sim base v angles) c a b use_bias).report ≡ (solve_as u (joint_sim base u angles) d a' b' use_bias').report
  unfolding solve_as solve_revolute_joint solve_spherical_joint solve_weld_joint R.joint_rotation
  solve_reads (Revolute r) =
      rw (
        Revolute-marks.solve_marks base _ a b c.h c.inv_h use_bias,
        Revolute-marks.solve_marks base r a' b' d.h d.inv_h use_bias',
        same-a,
        same-b,
      )
  solve_reads (Spherical r) =
      rw (
        Spherical-marks.solve_marks base _ a b c.h c.inv_h use_bias,
        Spherical-marks.solve_marks base r a' b' d.h d.inv_h use_bias',
        same-a,
        same-b,
      )
  solve_reads (Weld w) = rw (Weld-marks.solve_marks base _ a b use_bias, Weld-marks.solve_marks base w a' b' use_bias', same-a, same-b)
  solve_reads Other = refl

pub marks_read : MarksRead
marks_read joint x y c d a b a' b' use_bias use_bias' same-a same-b =
    solve_reads joint.base joint.angles x y c d a b a' b' use_bias use_bias' same-a same-b joint.union_

pub marks_without_indices_or_flags : MarksWithoutIndicesOrFlags
marks_without_indices_or_flags joint context a b use_bias x y f g = marks_read joint x y context context _ _ a b use_bias use_bias refl refl

-- prepare's mark, by the joint's case
abbrev mark_of_case : ℕ → BodyRecord → BodyRecord → Option Mark
mark_of_case kind body_a body_b =
    let sum = inertia_sum body_a body_b in
    cond (eqb kind 1) (rotation_mass_mark (lt (inertia_det body_a body_b) threshold) sum) (cond (eqb kind 2) (Some (invert_matrix_mark sum)) no_mark)

mark_of_case_lem : (base : JointBase) (angles : LimitAngles) (c : StepContext) (body_a body_b : BodyRecord) (u : JointUnion)
    → (prepare_as u (joint_sim base u angles) c body_a body_b).mass_mark ≡ mark_of_case (case_of u) body_a body_b
unfolding prepare_as prepare_revolute_joint prepare_spherical_joint prepare_weld_joint
mark_of_case_lem base angles c body_a body_b (Revolute r) = refl
mark_of_case_lem base angles c body_a body_b (Spherical r) = Spherical-marks.prepare_mark base r c.h c.enable_warm_starting _ body_a body_b
mark_of_case_lem base angles c body_a body_b (Weld w) = Weld-marks.prepare_mark base w c.h c.enable_warm_starting _ body_a body_b
mark_of_case_lem base angles c body_a body_b Other = refl

pub prepare_mark_reads : PrepareMarkReads
prepare_mark_reads joint joint' c d body_a body_b body_a' body_b' same_case same-a same-b =
    rw (
      mark_of_case_lem joint.base joint.angles c body_a body_b joint.union_,
      mark_of_case_lem joint'.base joint'.angles d body_a' body_b' joint'.union_,
      same_case,
      same-a,
      same-b,
    )
