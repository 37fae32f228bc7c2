-- The words of a case: four bytes each, the lowest first. Definitions only. Assumes nothing.
use Rattle.std.specs.Prelude.{ℕ, ◌+◌, ◌*◌, ◌/◌, cond, List, length, nat_lt, slice_index}

-- the number that four bytes are
abbrev pub from_bytes : ℕ → ℕ → ℕ → ℕ → ℕ
from_bytes a b c d = a + b * 256 + c * 65536 + d * 16777216

-- the word at an index, and 0 where there is none
unfoldable pub word_at : List ℕ → ℕ → ℕ
word_at p i =
    cond (nat_lt i (length p / 4))
    (from_bytes (slice_index p (i * 4)) (slice_index p (i * 4 + 1)) (slice_index p (i * 4 + 2)) (slice_index p (i * 4 + 3)))
    0
