-- How many rows are counted (C-19). Definitions only. Assumes nothing.
use Rattle.std.specs.Prelude.{Bool, cond, ℕ, ◌+◌}

-- `n` where they are worked, and 0 where not
unfoldable pub rows_if : Bool → ℕ → ℕ
rows_if worked n = cond worked n 0

-- the rows of a revolute or a spherical solve, each by the test by which it is worked: spring, motor, the limit's two, one more, and the point row, which is
-- always worked. C-19: 'A pair (lower, upper) counts 2'. The one more is revolute's perpendicular axes ('count 1') or spherical's cone
unfoldable pub sum_rows : Bool → Bool → Bool → Bool → ℕ
sum_rows spring motor limits perp_or_cone = rows_if spring 1 + rows_if motor 1 + rows_if limits 2 + rows_if perp_or_cone 1 + 1
