-- The math types' records by their parts, and the source's constants of these types. Definitions only. Assumes nothing.
use Rattle.std.specs.Prelude.{Float}
use Rattle.math_functions.specs.declared.types.Vec2.{Vec2}
use Rattle.math_functions.specs.declared.types.Vec3.{Vec3}
use Rattle.math_functions.specs.declared.types.Quat.{Quat}
use Rattle.math_functions.specs.declared.types.Transform.{Transform}
use Rattle.math_functions.specs.declared.types.Matrix3.{Matrix3}
use Rattle.math_functions.specs.declared.matrix.Mat2.{Mat2}
use Rattle.math_functions.specs.Float.{zero, one}

abbrev pub vec2 : Float → Float → Vec2
vec2 x y = record { x = x; y = y }

abbrev pub vec3 : Float → Float → Float → Vec3
vec3 x y z = record { x = x; y = y; z = z }

abbrev pub quat : Vec3 → Float → Quat
quat v s = record { v = v; s = s }

abbrev pub transform : Vec3 → Quat → Transform
transform p q = record { p = p; q = q }

-- by columns
abbrev pub matrix3 : Vec3 → Vec3 → Vec3 → Matrix3
matrix3 cx cy cz = record { cx = cx; cy = cy; cz = cz }

abbrev pub mat2 : Vec2 → Vec2 → Mat2
mat2 cx cy = record { cx = cx; cy = cy }

abbrev pub vec2_zero : Vec2
vec2_zero = vec2 zero zero

abbrev pub vec3_zero : Vec3
vec3_zero = vec3 zero zero zero

abbrev pub vec3_axis_x : Vec3
vec3_axis_x = vec3 one zero zero

abbrev pub vec3_axis_y : Vec3
vec3_axis_y = vec3 zero one zero

abbrev pub vec3_axis_z : Vec3
vec3_axis_z = vec3 zero zero one

abbrev pub quat_identity : Quat
quat_identity = quat vec3_zero one

abbrev pub mat3_zero : Matrix3
mat3_zero = matrix3 vec3_zero vec3_zero vec3_zero

abbrev pub transform_identity : Transform
transform_identity = transform vec3_zero quat_identity
