use native.Mathlib.Omega.{arith}
use Rattle.row_count.proofs.Counted.{of_at_most}
use Rattle.row_count.proofs.weld.count_rows.Goals as goal

pub overflow_add-result : goal.overflow_add-result
overflow_add-result c = omega (arith, of_at_most _ _ c.rows_if.ensures)
