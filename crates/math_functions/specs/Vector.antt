-- math_functions/vector.rs: arithmetic on Vec3. Definitions only. Assumes nothing.
use Rattle.std.specs.Prelude.{cond}
use Rattle.std.specs.Prelude.{Float}
use Rattle.sqrt.specs.Sqrt.{sqrt}
use Rattle.math_functions.specs.declared.types.Vec3.{Vec3}
use Rattle.math_functions.specs.Float as Float
use Rattle.math_functions.specs.Float.{◌⊕◌, ◌⊖◌, ◌⊗◌, ◌⊘◌, gt, one, threshold}
use Rattle.math_functions.specs.Types.{vec3, vec3_zero}

unfoldable pub add : Vec3 → Vec3 → Vec3
add a b = vec3 (a.x ⊕ b.x) (a.y ⊕ b.y) (a.z ⊕ b.z)

unfoldable pub sub : Vec3 → Vec3 → Vec3
sub a b = vec3 (a.x ⊖ b.x) (a.y ⊖ b.y) (a.z ⊖ b.z)

unfoldable pub neg : Vec3 → Vec3
neg a = vec3 (Float.neg a.x) (Float.neg a.y) (Float.neg a.z)

unfoldable pub dot : Vec3 → Vec3 → Float
dot a b = a.x ⊗ b.x ⊕ a.y ⊗ b.y ⊕ a.z ⊗ b.z

unfoldable pub length : Vec3 → Float
length v = sqrt (dot v v)

unfoldable pub normalize : Vec3 → Vec3
normalize a =
    let length_squared = a.x ⊗ a.x ⊕ a.y ⊗ a.y ⊕ a.z ⊗ a.z in
    let s = one ⊘ sqrt length_squared in
    cond (gt length_squared threshold) (vec3 (s ⊗ a.x) (s ⊗ a.y) (s ⊗ a.z)) vec3_zero

unfoldable pub mul_add : Vec3 → Float → Vec3 → Vec3
mul_add a s b = vec3 (a.x ⊕ s ⊗ b.x) (a.y ⊕ s ⊗ b.y) (a.z ⊕ s ⊗ b.z)

unfoldable pub mul_sub : Vec3 → Float → Vec3 → Vec3
mul_sub a s b = vec3 (a.x ⊖ s ⊗ b.x) (a.y ⊖ s ⊗ b.y) (a.z ⊖ s ⊗ b.z)

unfoldable pub mul_sv : Float → Vec3 → Vec3
mul_sv s a = vec3 (s ⊗ a.x) (s ⊗ a.y) (s ⊗ a.z)

unfoldable pub cross : Vec3 → Vec3 → Vec3
cross a b = vec3 (a.y ⊗ b.z ⊖ a.z ⊗ b.y) (a.z ⊗ b.x ⊖ a.x ⊗ b.z) (a.x ⊗ b.y ⊖ a.y ⊗ b.x)
