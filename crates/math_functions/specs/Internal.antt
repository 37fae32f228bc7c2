-- math_functions/internal.rs: arithmetic on Vec2. Definitions only. Assumes nothing.
use Rattle.std.specs.Prelude.{Float}
use Rattle.math_functions.specs.declared.types.Vec2.{Vec2}
use Rattle.math_functions.specs.Float.{◌⊕◌, ◌⊖◌, ◌⊗◌}
use Rattle.math_functions.specs.Types.{vec2}

unfoldable pub add2 : Vec2 → Vec2 → Vec2
add2 a b = vec2 (a.x ⊕ b.x) (a.y ⊕ b.y)

unfoldable pub sub2 : Vec2 → Vec2 → Vec2
sub2 a b = vec2 (a.x ⊖ b.x) (a.y ⊖ b.y)

unfoldable pub mul_sv2 : Float → Vec2 → Vec2
mul_sv2 s v = vec2 (s ⊗ v.x) (s ⊗ v.y)
