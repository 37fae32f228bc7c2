-- math_functions/matrix.rs: 3x3 matrices by columns, and the 2x2 matrix of the revolute joint. Definitions only. Assumes nothing.
use Rattle.std.specs.Prelude.{Bool, cond}
use Rattle.std.specs.Prelude.{Float}
use Rattle.math_functions.specs.declared.types.Vec2.{Vec2}
use Rattle.math_functions.specs.declared.types.Vec3.{Vec3}
use Rattle.math_functions.specs.declared.types.Matrix3.{Matrix3}
use Rattle.math_functions.specs.declared.mark.Mark.{Mark}
use Rattle.math_functions.specs.declared.matrix.Mat2.{Mat2}
use Rattle.math_functions.specs.Float.{◌⊕◌, ◌⊖◌, ◌⊗◌, ◌⊘◌, neg, gt, zero, one, threshold}
use Rattle.math_functions.specs.Types.{vec2, vec3, matrix3, vec2_zero, vec3_zero, mat3_zero}
use Rattle.math_functions.specs.Scalar.{abs_float}
use Rattle.math_functions.specs.Vector.{dot, mul_sv, cross}
use Rattle.math_functions.specs.Mark.{leaf_mark}

unfoldable pub det : Matrix3 → Float
det m = dot m.cx (cross m.cy m.cz)

unfoldable pub mul_mv : Matrix3 → Vec3 → Vec3
mul_mv m a =
    vec3
    (m.cx.x ⊗ a.x ⊕ m.cy.x ⊗ a.y ⊕ m.cz.x ⊗ a.z)
    (m.cx.y ⊗ a.x ⊕ m.cy.y ⊗ a.y ⊕ m.cz.y ⊗ a.z)
    (m.cx.z ⊗ a.x ⊕ m.cy.z ⊗ a.y ⊕ m.cz.z ⊗ a.z)

unfoldable pub negate_mat3 : Matrix3 → Matrix3
negate_mat3 a =
    matrix3
    (vec3 (neg a.cx.x) (neg a.cx.y) (neg a.cx.z))
    (vec3 (neg a.cy.x) (neg a.cy.y) (neg a.cy.z))
    (vec3 (neg a.cz.x) (neg a.cz.y) (neg a.cz.z))

unfoldable pub add_mm : Matrix3 → Matrix3 → Matrix3
add_mm a b =
    matrix3
    (vec3 (a.cx.x ⊕ b.cx.x) (a.cx.y ⊕ b.cx.y) (a.cx.z ⊕ b.cx.z))
    (vec3 (a.cy.x ⊕ b.cy.x) (a.cy.y ⊕ b.cy.y) (a.cy.z ⊕ b.cy.z))
    (vec3 (a.cz.x ⊕ b.cz.x) (a.cz.y ⊕ b.cz.y) (a.cz.z ⊕ b.cz.z))

unfoldable pub mul_mm : Matrix3 → Matrix3 → Matrix3
mul_mm a b = matrix3 (mul_mv a b.cx) (mul_mv a b.cy) (mul_mv a b.cz)

unfoldable pub transpose : Matrix3 → Matrix3
transpose m =
    matrix3
    (vec3 m.cx.x m.cy.x m.cz.x)
    (vec3 m.cx.y m.cy.y m.cz.y)
    (vec3 m.cx.z m.cy.z m.cz.z)

-- document 01's `invert_matrix`: zeros unless |det| > 1000 × 2 ^ -126
unfoldable pub invert_matrix : Matrix3 → Matrix3
invert_matrix m =
    let d = det m in
    let inv_det = one ⊘ d in
    let out = matrix3 (mul_sv inv_det (cross m.cy m.cz)) (mul_sv inv_det (cross m.cz m.cx)) (mul_sv inv_det (cross m.cx m.cy)) in
    cond (gt (abs_float d) threshold) (transpose out) mat3_zero

-- C-15: 'whether they fell back to zeros', by the test that the value goes by. A determinant equal to the threshold does not pass, nor does a NaN
abbrev pub passes3 : Matrix3 → Bool
passes3 m = gt (abs_float (det m)) threshold

unfoldable pub invert_matrix_mark : Matrix3 → Mark
invert_matrix_mark m = leaf_mark (passes3 m)

-- document 01's `solve3`: zeros unless |det| > 1000 × 2 ^ -126
unfoldable pub solve3 : Matrix3 → Vec3 → Vec3
solve3 m a =
    let d = det m in
    let inv_det = one ⊘ d in
    let s = matrix3 (cross m.cy m.cz) (cross m.cz m.cx) (cross m.cx m.cy) in
    cond (gt (abs_float d) threshold) (vec3 (inv_det ⊗ dot s.cx a) (inv_det ⊗ dot s.cy a) (inv_det ⊗ dot s.cz a)) vec3_zero

unfoldable pub solve3_mark : Matrix3 → Mark
solve3_mark m = leaf_mark (passes3 m)

unfoldable pub det2 : Mat2 → Float
det2 m = m.cx.x ⊗ m.cy.y ⊖ m.cx.y ⊗ m.cy.x

-- document 01's `solve2`: zeros unless det itself is above 1000 × 2 ^ -126
unfoldable pub solve2 : Mat2 → Vec2 → Vec2
solve2 m b =
    let d = det2 m in
    let inv_det = one ⊘ d in
    cond (gt d threshold)
    (vec2 (inv_det ⊗ m.cy.y ⊗ b.x ⊖ inv_det ⊗ m.cy.x ⊗ b.y) (neg inv_det ⊗ m.cx.y ⊗ b.x ⊕ inv_det ⊗ m.cx.x ⊗ b.y))
    vec2_zero

-- C-15: by the determinant itself, so that a negative one does not pass
abbrev pub passes2 : Mat2 → Bool
passes2 m = gt (det2 m) threshold

unfoldable pub solve2_mark : Mat2 → Mark
solve2_mark m = leaf_mark (passes2 m)

unfoldable pub skew : Vec3 → Matrix3
skew v = matrix3 (vec3 zero v.z (neg v.y)) (vec3 (neg v.z) zero v.x) (vec3 v.y (neg v.x) zero)
