-- The number that an argument names. Definitions only. Assumes nothing.
use Rattle.std.specs.Prelude.{cond, ◌&&◌, List, length, Option, Some, None, ℕ, ltb}
use Rattle.std.specs.Char.{is_ascii_digit}
use Rattle.std.specs.List.{list_all}
use Rattle.std.specs.Str.Parse.{digits_value}

-- the number that a text of digits names, leading zeros or not; none for any other text, the empty one among them, and for a number of more than nine digits
unfoldable pub number : List ℕ → Option ℕ
number text =
    cond (list_all is_ascii_digit text && (ltb 0 (length text) && ltb (digits_value 10 text) 1000000000)) (Some (digits_value 10 text)) None
