-- Revolute's point row is that of every kind: where its definition subtracts two products the others' has mul_sub, and the operations are the same.
-- Assumes nothing.
use Rattle.std.specs.Prelude.{◌≡◌, refl, Bool}
use Rattle.math_functions.specs.declared.types.Vec3.{Vec3}
use Rattle.math_functions.specs.Vector.{sub, mul_sub, mul_sv}
use Rattle.solver.specs.declared.Softness.{Softness}
use Rattle.constraint.specs.declared.velocity.Velocities.{Velocities}
use Rattle.constraint.specs.declared.velocity.InvMasses.{InvMasses}
use Rattle.constraint.specs.Soft.{soft_impulse3, soft_impulse_of}
use Rattle.constraint.specs.Point.{point_bias, point_cdot, point_row_at}
use Rattle.revolute.specs.Revolute.{point_row}

pub point_row_is : (use_bias : Bool) (s : Softness) (r_a r_b dc_a dc_b delta_center old : Vec3) (m : InvMasses) (v : Velocities)
    → point_row_at (point_bias use_bias s r_a r_b dc_a dc_b delta_center) (point_cdot r_a r_b v) r_a r_b old m v
    ≡ point_row use_bias s r_a r_b dc_a dc_b delta_center old m v
unfolding point_row point_row_at soft_impulse3 soft_impulse_of mul_sub mul_sv sub
point_row_is use_bias s r_a r_b dc_a dc_b delta_center old m v = refl
