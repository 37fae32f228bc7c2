-- `rows::cone_row` equals its definition, by the cases of an upper limit's row (constraint's `Limits`). Assumes nothing.
use Rattle.spherical.specs.Spherical.{cone_row}
use Rattle.constraint.proofs.Limits.{upper_pushes, upper_rests}
use Rattle.spherical.proofs.rows.cone_row.Goals as goal

pub returns-then-sum : goal.returns-then-sum
unfolding cone_row
returns-then-sum c = rw (← c.limit_bias-s.ensures, c.if-not-worked.false)
    (upper_pushes _ _ _ _ _ _ c.upper_row_to.ensures c.upper_limit_sum-sum.ensures c.if-sum.true)

pub returns : goal.returns
unfolding cone_row
returns c = rw (← c.limit_bias-s.ensures, c.if-not-worked.false)
    (upper_rests _ _ _ _ _ _ c.upper_row_to-2.ensures c.upper_limit_sum-sum.ensures c.if-sum.false)
