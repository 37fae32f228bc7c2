-- Steps of the code that the Rust does not have. No definition that is written from the Rust cites them. Definitions only. Assumes nothing.
use Rattle.std.specs.Prelude.{cond, Float}
use Rattle.math_functions.specs.Float.{◌⊘◌, gt, one}

-- by how much `limit_length` scales, where one times a number is that number
unfoldable pub limit_scale : Float → Float → Float
limit_scale len max_impulse = cond (gt len max_impulse) (max_impulse ⊘ len) one
