-- The claims of specs/Claims.antt on marks, proved, each under its statement's name in small letters. Assumes nothing.
use Rattle.std.specs.Prelude.{◌≡◌, Bool, true, false, cond, Option, Some, None}
use mathlib.Core.Path.{refl, ap, ◌∙◌}
use lib.Ieee as Ieee
use lib.Ieee.{Float, nan}
use Rattle.math_functions.specs.declared.mark.Mark.{Mark}
use Rattle.math_functions.specs.declared.mark.Mark.TheVariants.{Solved, FellBack}
use Rattle.math_functions.specs.Float.{gt, threshold}
use Rattle.math_functions.specs.Scalar.{abs_float}
use Rattle.math_functions.specs.Mark.{Says, leaf_mark, mark_of, no_mark}
use Rattle.math_functions.specs.Matrix.{det, det2, passes2, passes3, invert_matrix, invert_matrix_mark, solve2, solve2_mark, solve3, solve3_mark}
use Rattle.math_functions.specs.Claims.{MarkSaid, MarksSay, FellBackToZeros, FellBackAt}
use Rattle.math_functions.proofs.Facts.{negative_not_above_threshold, threshold_not_above, nan_not_above_threshold}

-- ---- what is said of a mark

said : (worked passes : Bool) → Says (mark_of worked passes) worked passes
said false passes = refl
said true true = (refl, refl)
said true false = (refl, refl)

only : (worked passes : Bool) (mark : Option Mark) → Says mark worked passes → mark ≡ mark_of worked passes
only worked passes None p = rw p
only worked passes (Some Solved) p = rw (p.0, p.1)
only worked passes (Some FellBack) p = rw (p.0, p.1)

pub mark_said : MarkSaid
mark_said = record { said = said; only = only }

-- a row or a mass has its leaf's mark where it is worked, and else none
pub worked_says : (worked passes : Bool) (mark : Option Mark) → Says mark true passes → Says (cond worked mark no_mark) worked passes
worked_says true passes mark says = says
worked_says false passes mark says = refl

-- ---- the leaves, by their tests

pub marks_say : MarksSay
unfolding solve2_mark solve3_mark invert_matrix_mark
marks_say = record { solve2 = λ m. said true (passes2 m); solve3 = λ m. said true (passes3 m); inverse = λ m. said true (passes3 m) }

-- ---- where the test fails

back : (passes : Bool) → passes ≡ false → leaf_mark passes ≡ FellBack
back passes e = rw e

size_of_nan : abs_float nan ≡ nan
unfolding abs_float Ieee.lt
size_of_nan = refl

at_threshold : (x : Float) → x ≡ threshold → gt x threshold ≡ false
at_threshold x e = rw (e, threshold_not_above)

at_nan : (x : Float) → x ≡ nan → gt (abs_float x) threshold ≡ false
at_nan x e = rw (e, size_of_nan, nan_not_above_threshold)

pub fell_back_at : FellBackAt
unfolding solve2_mark solve3_mark invert_matrix_mark
fell_back_at =
    record {
      solve2_negative = λ m e. back _ (negative_not_above_threshold (det2 m) e);
      solve2_threshold = λ m e. back _ (at_threshold (det2 m) e);
      solve2_nan = λ m e. back _ (ap (λ x. gt x threshold) e ∙ nan_not_above_threshold);
      solve3_threshold = λ m e. back _ (at_threshold (abs_float (det m)) e);
      solve3_nan = λ m e. back _ (at_nan (det m) e);
      inverse_threshold = λ m e. back _ (at_threshold (abs_float (det m)) e);
      inverse_nan = λ m e. back _ (at_nan (det m) e);
    }

-- ---- what a leaf that fell back gives

-- a leaf that fell back has not passed
failed : (passes : Bool) → leaf_mark passes ≡ FellBack → passes ≡ false
failed true e = cc
failed false e = refl

pub fell_back_to_zeros : FellBackToZeros
unfolding solve2 solve2_mark solve3 solve3_mark invert_matrix invert_matrix_mark
fell_back_to_zeros =
    record {
      solve2 = λ m b e. rw (failed (passes2 m) e);
      solve3 = λ m a e. rw (failed (passes3 m) e);
      inverse = λ m e. rw (failed (passes3 m) e);
    }
