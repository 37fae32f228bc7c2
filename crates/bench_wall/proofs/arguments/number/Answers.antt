-- A text of digits is UTF-8, and the library reads it.
use Rattle.std.proofs.Common.{rules, arith}
use Rattle.bench_wall.proofs.Numbers.{other_text, is_utf8, small, large, not_parsed}
use Rattle.bench_wall.proofs.arguments.number.Goals as goal

pub returns-then-not-are_digits : goal.returns-then-not-are_digits
returns-then-not-are_digits c = other_text c.args.text.now (search rules)

pub returns-in_default : goal.returns-in_default
returns-in_default c = absurd (c.in_default.ensures.cases.0 (is_utf8 c.args.text.now (search rules)))

pub returns-then-number-lt1000000000 : goal.returns-then-number-lt1000000000
returns-then-number-lt1000000000 c =
    small c.args.text.now (search rules) _ c.in-Ok.ensures.cases.0 c.parse.result c.parse.ensures.value.0 _ c.in-Ok-parse.is (omega arith)

pub returns-else-number-lt1000000000 : goal.returns-else-number-lt1000000000
returns-else-number-lt1000000000 c =
    large c.args.text.now (search rules) _ c.in-Ok.ensures.cases.0 c.parse.result c.parse.ensures.value.0 _ c.in-Ok-parse.is (omega arith)

pub returns-in_default-parse : goal.returns-in_default-parse
returns-in_default-parse c =
    not_parsed c.args.text.now (search rules) _ c.in-Ok.ensures.cases.0 c.parse.result c.parse.ensures.value.0 _ c.in_default-parse.is
