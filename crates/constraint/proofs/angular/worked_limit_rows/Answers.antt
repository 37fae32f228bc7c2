-- `angular::worked_limit_rows` equals its definition: both limits' rows by `max_float`'s two cases, the upper's in `Limits`. Assumes nothing.
use Rattle.math_functions.specs.Scalar.{max_float}
use Rattle.constraint.specs.Soft.{limit_impulse}
use Rattle.constraint.specs.Angular.{lower_limit_row, twist_limit_rows}
use Rattle.constraint.specs.Steps.{lower_limit_sum, worked_limit_rows}
use Rattle.constraint.proofs.Limits.{upper_pushes, upper_rests}
use Rattle.constraint.proofs.angular.worked_limit_rows.Goals as goal

pub returns-then-upper : goal.returns-then-upper
unfolding worked_limit_rows twist_limit_rows lower_limit_row lower_limit_sum limit_impulse max_float
returns-then-upper c =
    let upper = upper_pushes _ _ _ _ _ _ c.upper_row_to.ensures c.upper_limit_sum-upper.ensures c.if-upper.true in
    rw (
      ← c.limit_bias-lower_bias.ensures,
      ← c.lower_limit_sum-lower.ensures,
      c.if-lower.true,
      ← c.apply_axial-v.ensures,
      ← c.limit_bias-upper_bias.ensures,
      ← upper,
      ← c.limit_rows.ensures,
    )

pub returns-then-lower : goal.returns-then-lower
unfolding worked_limit_rows twist_limit_rows lower_limit_row lower_limit_sum limit_impulse max_float
returns-then-lower c =
    let upper = upper_rests _ _ _ _ _ _ c.upper_row_to-then-lower.ensures c.upper_limit_sum-upper.ensures c.if-upper.false in
    rw (
      ← c.limit_bias-lower_bias.ensures,
      ← c.lower_limit_sum-lower.ensures,
      c.if-lower.true,
      ← c.apply_axial-v.ensures,
      ← c.limit_bias-upper_bias.ensures,
      ← upper,
      ← c.limit_rows-then-lower.ensures,
    )

pub returns-then-upper-2 : goal.returns-then-upper-2
unfolding worked_limit_rows twist_limit_rows lower_limit_row lower_limit_sum limit_impulse max_float
returns-then-upper-2 c =
    let upper = upper_pushes _ _ _ _ _ _ c.upper_row_to-then-upper-2.ensures c.upper_limit_sum-upper-2.ensures c.if-upper-2.true in
    rw (
      ← c.limit_bias-lower_bias.ensures,
      ← c.lower_limit_sum-lower.ensures,
      c.if-lower.false,
      ← c.apply_axial-v-2.ensures,
      ← c.limit_bias-upper_bias-2.ensures,
      ← upper,
      ← c.limit_rows-then-upper-2.ensures,
    )

pub returns : goal.returns
unfolding worked_limit_rows twist_limit_rows lower_limit_row lower_limit_sum limit_impulse max_float
returns c =
    let upper = upper_rests _ _ _ _ _ _ c.upper_row_to-2.ensures c.upper_limit_sum-upper-2.ensures c.if-upper-2.false in
    rw (
      ← c.limit_bias-lower_bias.ensures,
      ← c.lower_limit_sum-lower.ensures,
      c.if-lower.false,
      ← c.apply_axial-v-2.ensures,
      ← c.limit_bias-upper_bias-2.ensures,
      ← upper,
      ← c.limit_rows-2.ensures,
    )
