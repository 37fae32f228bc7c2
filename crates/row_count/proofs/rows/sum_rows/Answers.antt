-- None of the sums wraps: each of the four numbers is at most 1, 1, 2 and 1. Assumes nothing.
use native.Mathlib.Omega.{arith}
use Rattle.row_count.proofs.Counted.{of_at_most}
use Rattle.row_count.proofs.rows.sum_rows.Goals as goal

pub overflow_add-result : goal.overflow_add-result
overflow_add-result c = omega (arith, of_at_most _ _ c.rows_if-a.ensures, of_at_most _ _ c.rows_if-b.ensures)

pub overflow_add-result-2 : goal.overflow_add-result-2
overflow_add-result-2 c =
    omega (arith, of_at_most _ _ c.rows_if-a.ensures, of_at_most _ _ c.rows_if-b.ensures, of_at_most _ _ c.rows_if-c.ensures)

pub overflow_add-result-3 : goal.overflow_add-result-3
overflow_add-result-3 c =
    omega (
      arith,
      of_at_most _ _ c.rows_if-a.ensures,
      of_at_most _ _ c.rows_if-b.ensures,
      of_at_most _ _ c.rows_if-c.ensures,
      of_at_most _ _ c.rows_if-d.ensures,
    )

pub overflow_add-result-4 : goal.overflow_add-result-4
overflow_add-result-4 c =
    omega (
      arith,
      of_at_most _ _ c.rows_if-a.ensures,
      of_at_most _ _ c.rows_if-b.ensures,
      of_at_most _ _ c.rows_if-c.ensures,
      of_at_most _ _ c.rows_if-d.ensures,
    )
