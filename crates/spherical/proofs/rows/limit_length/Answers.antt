-- `rows::limit_length` equals its definition, which scales an impulse only if it is too long: scaled by one, it stays (`one_times`). Assumes nothing.
use mathlib.Core.Path.{◌≡◌, refl}
use mathlib.Core.Bool.{Bool, true, false, cond}
use lib.Ieee.{Float, binary32, fits}
use Rattle.math_functions.specs.declared.types.Vec3.{Vec3}
use Rattle.math_functions.specs.Float.{◌⊘◌, gt, one}
use Rattle.math_functions.specs.Types.{vec3}
use Rattle.math_functions.specs.Vector.{length, mul_sv}
use Rattle.spherical.specs.Spherical.{limit_length}
use Rattle.spherical.specs.Steps.{limit_scale}
use Rattle.spherical.proofs.One.{one_times}
use Rattle.spherical.proofs.rows.limit_length.Goals as goal

scaled : (v : Vec3) (max_impulse : Float) → fits binary32 v.x ≡ true → fits binary32 v.y ≡ true → fits binary32 v.z ≡ true
    → mul_sv (limit_scale (length v) max_impulse) v ≡ limit_length v max_impulse
unfolding limit_scale limit_length mul_sv
scaled v max_impulse x_fits y_fits z_fits = go (gt (length v) max_impulse)
  where
    go : (longer : Bool) → mul_sv (cond longer (max_impulse ⊘ length v) one) v ≡ cond longer (mul_sv (max_impulse ⊘ length v) v) v
    go true = refl
    go false = λ i. vec3 (one_times v.x x_fits i) (one_times v.y y_fits i) (one_times v.z z_fits i)

-- `told`: the parameter's three numbers fit the format
pub returns : goal.returns
returns c =
    let told = c.well_formed.0.1.1 in
    rw (c.mul_sv.ensures, c.limit_scale.ensures, c.length.ensures) (scaled _ _ told.0.1 told.1.0.1 told.1.1.0.1)
