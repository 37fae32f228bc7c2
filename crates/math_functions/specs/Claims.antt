-- What holds of a mark, and of the marks of `solve2`, `solve3` and `invert_matrix`, in C-15's words. Statements only: each is proved in proofs/Marks.antt,
-- under the same name in small letters. Assumes nothing.
use Rattle.std.specs.Prelude.{◌≡◌, Bool, true, Option, Some}
use Rattle.std.specs.Float.{nan}
use Rattle.math_functions.specs.declared.mark.Mark.{Mark}
use Rattle.math_functions.specs.declared.mark.Mark.TheVariants.{FellBack}
use Rattle.math_functions.specs.declared.types.Vec2.{Vec2}
use Rattle.math_functions.specs.declared.types.Vec3.{Vec3}
use Rattle.math_functions.specs.declared.types.Matrix3.{Matrix3}
use Rattle.math_functions.specs.declared.matrix.Mat2.{Mat2}
use Rattle.math_functions.specs.Float.{lt, zero, threshold}
use Rattle.math_functions.specs.Types.{vec2_zero, vec3_zero, mat3_zero}
use Rattle.math_functions.specs.Scalar.{abs_float}
use Rattle.math_functions.specs.Mark.{Says, mark_of}
use Rattle.math_functions.specs.Matrix.{det, det2, passes2, passes3, invert_matrix, invert_matrix_mark, solve2, solve2_mark, solve3, solve3_mark}

-- The mark that is defined says what the paper says of a row or a mass, and no other mark does.
pub record MarkSaid : Type 0 where
  pub said : (worked passes : Bool) → Says (mark_of worked passes) worked passes
  pub only : (worked passes : Bool) (mark : Option Mark) → Says mark worked passes → mark ≡ mark_of worked passes

-- A leaf that is worked is marked, solved or fell back, by its test.
pub record MarksSay : Type 0 where
  pub solve2 : (m : Mat2) → Says (Some (solve2_mark m)) true (passes2 m)
  pub solve3 : (m : Matrix3) → Says (Some (solve3_mark m)) true (passes3 m)
  pub inverse : (m : Matrix3) → Says (Some (invert_matrix_mark m)) true (passes3 m)

-- 'whether they fell back to zeros': where a leaf fell back its value is zeros, whatever the right-hand side.
pub record FellBackToZeros : Type 0 where
  pub solve2 : (m : Mat2) (b : Vec2) → solve2_mark m ≡ FellBack → solve2 m b ≡ vec2_zero
  pub solve3 : (m : Matrix3) (a : Vec3) → solve3_mark m ≡ FellBack → solve3 m a ≡ vec3_zero
  pub inverse : (m : Matrix3) → invert_matrix_mark m ≡ FellBack → invert_matrix m ≡ mat3_zero

-- A leaf whose determinant equals the threshold fell back, and one whose determinant is a NaN: in `solve2` also one whose determinant is negative, in the other
-- two where the size of it equals the threshold.
pub record FellBackAt : Type 0 where
  pub solve2_negative : (m : Mat2) → lt (det2 m) zero ≡ true → solve2_mark m ≡ FellBack
  pub solve2_threshold : (m : Mat2) → det2 m ≡ threshold → solve2_mark m ≡ FellBack
  pub solve2_nan : (m : Mat2) → det2 m ≡ nan → solve2_mark m ≡ FellBack
  pub solve3_threshold : (m : Matrix3) → abs_float (det m) ≡ threshold → solve3_mark m ≡ FellBack
  pub solve3_nan : (m : Matrix3) → det m ≡ nan → solve3_mark m ≡ FellBack
  pub inverse_threshold : (m : Matrix3) → abs_float (det m) ≡ threshold → invert_matrix_mark m ≡ FellBack
  pub inverse_nan : (m : Matrix3) → det m ≡ nan → invert_matrix_mark m ≡ FellBack
