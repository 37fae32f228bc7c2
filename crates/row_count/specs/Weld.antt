-- Document 01's rows of a weld solve, in order (angular, point): by which test the angular row is worked, and how many are worked. The solve's definition makes
-- the same test, but does not cite this one yet. Definitions only. Assumes nothing.
use Rattle.std.specs.Prelude.{Bool, not, ℕ, ◌+◌}
use Rattle.row_count.specs.Rows.{rows_if}

-- the angular row has no switch
abbrev pub angular_worked : Bool → Bool
angular_worked fixed_rotation = not fixed_rotation

-- C-19: the rows that a solve works; the point row is always worked
unfoldable pub count_rows : Bool → ℕ
count_rows fixed_rotation = rows_if (angular_worked fixed_rotation) 1 + 1
