-- The code computes each entry at its place, where the definition makes the entries by `cross` and `mul_sv` and places them by `transpose`. Assumes nothing.
use Rattle.std.proofs.Common.{rules}
use Rattle.math_functions.specs.Vector.{mul_sv, cross}
use Rattle.math_functions.specs.Matrix.{transpose, invert_matrix, invert_matrix_mark}
use Rattle.math_functions.proofs.matrix.invert_matrix.Goals as goal

pub returns-then-abs_float : goal.returns-then-abs_float
unfolding invert_matrix invert_matrix_mark transpose mul_sv cross
returns-then-abs_float c = search rules

pub returns-else-abs_float : goal.returns-else-abs_float
unfolding invert_matrix invert_matrix_mark transpose mul_sv cross
returns-else-abs_float c = search rules
